-- What the reader of a number has still to see, by what it has tested on the way. Assumes nothing.
use borrow.Author.Rules.{rules}
use borrow.Author.Tests.{lt-ltb, le-ltb, le-leb, lt-leb, eqb-true, eqb-false, ltb-true, ltb-false, leb-true, leb-false}
use mathlib.Core.Path.{◌≡◌, refl, sym, ap, ◌∙◌}
use mathlib.Core.Bool.{Bool, true, false}
use mathlib.Core.List.{List, [], ◌∷◌}
use mathlib.Core.Option.{Option, none, some}
use Prim.Native.Nat.{ℕ, suc, ◌+◌, ◌-◌, ◌*◌, ◌/◌, ◌<◌, ◌≤◌, ◌^◌}
use native.Mathlib.Omega.{arith}
use lib.Dec.{eqb, leb, ltb}
use Rattle.std.specs.Bool.{then_some}
use mir.Val.{Fits}
use mir.Syntax.{w32}
use lib.ListN.{length, get_or, get_or-eq_default}
use lib.IntN.{ℤ, pos}
use Rattle.text.specs.Field.{when, ◌>>=◌, is_digit, digits, decimal, number, negative, enum_number}
use Rattle.text.specs.Place.{field_at, field_end, byte_at, as_field, number_at, as_whole, whole_at}
use Rattle.std.specs.Prelude.{Some, None}
use Rattle.std.specs.Prelude as std
use Rattle.text.specs.declared.Field.{Field}
use Rattle.text_numbers.specs.Limited.{up_to, decimal_at}
use Rattle.text.proofs.Places.{field_more, field_inside}
use Rattle.text.proofs.Scans.{in_text, end_next, at_end, in_field}
use Rattle.text.proofs.Decimals.{one_digit, zero_first, no_zero}

-- ---- digits

module _ (v b : ℕ) (bs : List ℕ) where
  digits_none : is_digit b ≡ false → digits v (b ∷ bs) ≡ none
  unfolding digits
  digits_none h = simp h

  digits_more : is_digit b ≡ true → digits v (b ∷ bs) ≡ digits (v * 10 + (b - 48)) bs
  unfolding digits
  digits_more h = simp h

-- more digits make no number smaller
digits_over : (m v : ℕ) (bs : List ℕ) → m < v → up_to m (digits v bs) ≡ none
unfolding digits
digits_over m v [] h = simp (lt-leb _ _ h)
digits_over m v (b ∷ bs) h =
    elim (is_digit b) as (λ t. up_to m (when t (v * 10 + (b - 48)) >>= λ w. digits w bs) ≡ none)
    [ true ↦ digits_over m (v * 10 + (b - 48)) bs (omega arith) | false ↦ refl ]

-- ---- a decimal number with a limit

module _ (m : ℕ) (s : List ℕ) (at e : ℕ) (ends : e ≡ field_end s at) where
  pub decimal_empty : e ≡ at → None ≡ decimal_at m s at
  unfolding decimal_at decimal
  decimal_empty h = simp (at_end s at e (sym ends) (omega arith))

  module _ (some_byte : (e ≡ at) → ⊥) where
    first : field_at s at ≡ get_or s at 0 ∷ field_at s (at + 1)
    first = in_field s at e (sym ends) (omega arith)

    pub decimal_in_text : at < length s
    decimal_in_text = in_text s at e (sym ends) (omega arith)

    pub decimal_zero : get_or s at 0 ≡ 48 → then_some (eqb (e - at) 1) (record { value = 0; end = e }) ≡ decimal_at m s at
    unfolding decimal_at
    decimal_zero z = go (eqb (e - at) 1) refl where
      go : (t : Bool) → eqb (e - at) 1 ≡ t → then_some t (record { value = 0; end = e }) ≡ decimal_at m s at
      go true h =
          let q = eqb-true (e - at) 1 h in
          rw (← ends) (simp (first, one_digit (get_or s at 0) (field_at s (at + 1)) z (omega (arith, ap length first)), le-leb 0 m (omega arith)))
      go false h =
          let q = eqb-false (e - at) 1 h in
          simp (first, zero_first (get_or s at 0) (field_at s (at + 1)) z (λ x. q (omega (arith, ap length first))))

    pub decimal_start : ((get_or s at 0 ≡ 48) → ⊥) → as_field (up_to m (digits 0 (field_at s at))) e ≡ decimal_at m s at
    unfolding decimal_at
    decimal_start z = rw (← ends) (simp (first, no_zero (get_or s at 0) (field_at s (at + 1)) z))

module _ (m : ℕ) (s : List ℕ) (v i e : ℕ) (g : std.Option (Field ℕ)) (ends : field_end s i ≡ e) (inv : as_field (up_to m (digits v (field_at s i))) e ≡ g) where
  pub decimal_done : e ≤ i → v ≤ m → Some (record { value = v; end = e }) ≡ g
  unfolding digits
  decimal_done h l = simp (at_end s i e ends h, le-leb _ _ l) at inv

  module _ (h : i < e) (t : Bool) (test : t ≡ is_digit (get_or s i 0)) where
    pub decimal_none : t ≡ false → None ≡ g
    decimal_none x = simp (in_field s i e ends h, digits_none v (get_or s i 0) (field_at s (i + 1)) (sym test ∙ x)) at inv

    module _ (x : t ≡ true) (d : ℕ) (is : d ≡ get_or s i 0 - 48) where
      more : as_field (up_to m (digits (v * 10 + d) (field_at s (i + 1)))) e ≡ g
      more = rw is (simp (in_field s i e ends h, digits_more v (get_or s i 0) (field_at s (i + 1)) (sym test ∙ x)) at inv)

      pub decimal_over : d ≤ m → (m - d) / 10 < v → None ≡ g
      decimal_over l z =
          let o : m < v * 10 + d = omega arith in
          rw (digits_over m (v * 10 + d) (field_at s (i + 1)) o) at more

      pub decimal_more : as_field (up_to m (digits (v * 10 + d) (field_at s (i + 1)))) e ≡ g
      decimal_more = more

pub ruleset first_laws = (rules, decimal_empty, decimal_in_text, decimal_zero, decimal_start)

pub ruleset digit_laws = (rules, in_text, end_next, decimal_done, decimal_none, decimal_over, decimal_more)

-- ---- what the reader's answer says of the field's number

upto_some : (m : ℕ) (o : Option ℕ) (f : ℕ) (r : Field ℕ) → Some r ≡ as_field (up_to m o) f → (o ≡ some r.value) × (f ≡ r.end) × (r.value ≤ m)
upto_some m none f r h = let z : ◌≡◌ {A = ℕ} 0 1 = cc in absurd (omega arith)
upto_some m (some k) f r h = go (leb k m) refl h where
  go : (t : Bool) → leb k m ≡ t → Some r ≡ as_field (when t k) f → (some k ≡ some r.value) × (f ≡ r.end) × (r.value ≤ m)
  go true q g =
      let z : record { value = k; end = f } ≡ r = cc in
      let v : k ≡ r.value = ap (λ (x : Field ℕ). x.value) z in
      (ap some v, ap (λ (x : Field ℕ). x.end) z, omega (arith, v, leb-true k m q))
  go false q g = let z : ◌≡◌ {A = ℕ} 0 1 = cc in absurd (omega arith)

upto_none : (P : Option ℕ → Type 0) (m : ℕ) (o : Option ℕ) (f : ℕ) → P none → ((n : ℕ) → m < n → P (some n)) → None ≡ as_field (up_to m o) f → P o
upto_none P m none f p q h = p
upto_none P m (some k) f p q h = go (leb k m) refl h where
  go : (t : Bool) → leb k m ≡ t → None ≡ as_field (when t k) f → P (some k)
  go true e g = let z : ◌≡◌ {A = ℕ} 0 1 = cc in absurd (omega arith)
  go false e g = q k (leb-false k m e)

-- ---- a number of at most 4,294,967,295

module _ (s : List ℕ) (at m : ℕ) where
  pub number_none : None ≡ decimal_at m s at → 4294967295 ≤ m → None ≡ number_at s at
  unfolding decimal_at number_at number
  number_none h b =
      upto_none (λ o. None ≡ as_field (up_to 4294967295 o) (field_end s at)) m (decimal (field_at s at)) (field_end s at) refl
      (λ n l. simp (lt-leb n 4294967295 (omega arith))) h

  module _ (r : Field ℕ) (is : Some r ≡ decimal_at m s at) (b : m ≤ 4294967295) where
    pub number_some : Some (record { value = r.value; end = r.end }) ≡ number_at s at
    unfolding decimal_at number_at number
    number_some =
        let q = upto_some m (decimal (field_at s at)) (field_end s at) r is in
        simp (q.0, q.1, le-leb r.value 4294967295 (omega arith))

    pub number_fits : Fits w32 r.value
    unfolding decimal_at
    number_fits = record { fits = omega (arith, upto_some m (decimal (field_at s at)) (field_end s at) r is) }

pub ruleset number_laws = (rules, number_none, number_some, number_fits)

-- ---- an enum's number

module _ (s : List ℕ) (at : ℕ) (t : Bool) (byte : t ≡ byte_at s at 45) where
  module _ (h : t ≡ true) where
    minus : get_or s at 0 ≡ 45
    minus = eqb-true (get_or s at 0) 45 (sym byte ∙ h)

    pub minus_in_text : at < length s
    minus_in_text = go (ltb at (length s)) refl where
      go : (x : Bool) → ltb at (length s) ≡ x → at < length s
      go true e = ltb-true at (length s) e
      go false e = absurd (omega (arith, minus, get_or-eq_default s 0 (ltb-false at (length s) e)))

    minus_first : field_at s at ≡ get_or s at 0 ∷ field_at s (at + 1)
    minus_first = field_more s at minus_in_text (simp minus)

    -- the number is what the digits behind the minus say
    minus_whole : as_whole (decimal (field_at s (at + 1)) >>= negative) (field_end s (at + 1)) ≡ whole_at s at
    unfolding whole_at enum_number
    minus_whole =
        let e : field_end s at ≡ field_end s (at + 1) = omega (arith, ap length minus_first) in
        rw e (simp (minus_first, minus))

    module _ (m : ℕ) where
      pub minus_none : None ≡ decimal_at m s (at + 1) → 9223372036854775808 ≤ m → None ≡ whole_at s at
      unfolding decimal_at
      minus_none g b =
          upto_none (λ o. None ≡ as_whole (o >>= negative) (field_end s (at + 1))) m (decimal (field_at s (at + 1))) (field_end s (at + 1)) refl
          (λ n l. let p : n ≡ suc (n - 1) = omega arith in rw p (simp (le-ltb (n - 1) (2 ^ 63) (omega arith)))) g
          ∙ minus_whole

      module _ (r : Field ℕ) (g : Some r ≡ decimal_at m s (at + 1)) where
        found : (decimal (field_at s (at + 1)) ≡ some r.value) × (field_end s (at + 1) ≡ r.end) × (r.value ≤ m)
        unfolding decimal_at
        found = upto_some m (decimal (field_at s (at + 1))) (field_end s (at + 1)) r g

        pub minus_zero : r.value ≡ 0 → None ≡ whole_at s at
        minus_zero z = simp (found.0, z) at minus_whole

        pub minus_some : ((r.value ≡ 0) → ⊥) → m ≤ 9223372036854775808 → Some (record { value = record { negative = true; distance = r.value - 1 }; end = r.end }) ≡ whole_at s at
        minus_some z b =
            let p : r.value ≡ suc (r.value - 1) = omega arith in
            simp (found.0 ∙ ap some p, found.1, lt-ltb (r.value - 1) (2 ^ 63) (omega (arith, found.2))) at minus_whole

  module _ (h : t ≡ false) (m : ℕ) where
    plus : (f : List ℕ) → field_at s at ≡ f → (decimal f >>= λ n. some (pos n)) ≡ enum_number f
    unfolding enum_number decimal
    plus [] q = refl
    plus (b ∷ bs) q =
        let p : b ≡ get_or s at 0 = ap (λ (l : List ℕ). get_or l 0 0) (sym q ∙ (field_inside s at (omega (arith, ap length q))).1) in
        simp (p, ← byte, h)

    plus_whole : as_whole (decimal (field_at s at) >>= λ n. some (pos n)) (field_end s at) ≡ whole_at s at
    unfolding whole_at
    plus_whole = ap (λ (o : Option ℤ). as_whole o (field_end s at)) (plus (field_at s at) refl)

    pub plus_none : None ≡ decimal_at m s at → 18446744073709551615 ≤ m → None ≡ whole_at s at
    unfolding decimal_at
    plus_none g b =
        upto_none (λ o. None ≡ as_whole (o >>= λ n. some (pos n)) (field_end s at)) m (decimal (field_at s at)) (field_end s at) refl
        (λ n l. simp (le-ltb n (2 ^ 64) (omega arith))) g
        ∙ plus_whole

    pub plus_some : (r : Field ℕ) → Some r ≡ decimal_at m s at → m ≤ 18446744073709551615
        → Some (record { value = record { negative = false; distance = r.value }; end = r.end }) ≡ whole_at s at
    unfolding decimal_at
    plus_some r g b =
        let q = upto_some m (decimal (field_at s at)) (field_end s at) r g in
        simp (q.0, q.1, lt-ltb r.value (2 ^ 64) (omega (arith, q.2))) at plus_whole

pub ruleset whole_laws = (rules, minus_none, minus_zero, minus_some, plus_none, plus_some)
