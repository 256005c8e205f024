-- Document 01, "Layout sheets": what the fields of a line say.
use Rattle.std.specs.Prelude.{Bool, true, false, cond, not, ◌&&◌, List, [], ◌∷◌, ◌++◌, ℕ, zero, suc, ◌+◌, ◌-◌, ◌*◌, ◌/◌, ◌%◌, length, leb, ltb, eqb, ℤ, pos, negsuc}
use Rattle.std.proofs.Math.Option.{Option, none, some}
use Rattle.std.specs.List.{list_all}
use Rattle.text.specs.Text.{minus}

-- ---- answers that may be missing

abbrev pub when : {A : Type 0} → Bool → A → Option A
when true a = some a
when false a = none

infixl 1 ◌>>=◌
abbrev pub ◌>>=◌ : {A B : Type 0} → Option A → (A → Option B) → Option B
none >>= f = none
(some a) >>= f = f a

-- ---- numbers

abbrev pub is_digit : ℕ → Bool
is_digit b = leb 48 b && leb b 57

-- the digits bs after digits of the value v
unfoldable pub digits : ℕ → List ℕ → Option ℕ
digits v [] = some v
digits v (b ∷ bs) = when (is_digit b) (v * 10 + (b - 48)) >>= λ w. digits w bs

-- a leading zero: a 0 with something after it
abbrev pub leading_zero : ℕ → List ℕ → Bool
leading_zero b [] = false
leading_zero b (c ∷ cs) = eqb b 48

-- "Numbers are decimal without leading zeros": of any size
unfoldable pub decimal : List ℕ → Option ℕ
decimal [] = none
decimal (b ∷ bs) = when (not (leading_zero b bs)) (b ∷ bs) >>= digits 0

-- "at most 4,294,967,295"
unfoldable pub number : List ℕ → Option ℕ
number f = decimal f >>= λ n. when (leb n 4_294_967_295) n

-- "each number lies in the base's range and may have a leading minus (`-0` is a fault)"; it is "bounded by its base alone"
abbrev pub negative : ℕ → Option ℤ
negative zero = none
negative (suc n) = some (negsuc n)

unfoldable pub enum_number : List ℕ → Option ℤ
enum_number [] = none
enum_number (b ∷ bs) = cond (eqb b minus) (decimal bs >>= negative) (decimal (b ∷ bs) >>= λ n. some (pos n))

-- n in decimal; the first argument bounds its digits, and n + 1 is enough
unfoldable pub decimal_in : ℕ → ℕ → List ℕ
decimal_in zero n = []
decimal_in (suc k) n =
    let more = decimal_in k (n / 10) in
    cond (ltb n 10) ((48 + n) ∷ []) (more ++ ((48 + n % 10) ∷ []))

abbrev pub decimal_of : ℕ → List ℕ
decimal_of n = decimal_in (n + 1) n

-- a signed number in decimal
abbrev pub signed_of : ℤ → List ℕ
signed_of (pos n) = decimal_of n
signed_of (negsuc n) = minus ∷ decimal_of (suc n)

-- ---- names

abbrev pub is_printable : ℕ → Bool
is_printable b = leb 33 b && leb b 126

unfoldable pub each_printable : List ℕ → Bool
each_printable = list_all is_printable

-- "A name is 1 to 31 bytes in 33..126."
abbrev pub is_name : List ℕ → Bool
is_name f = leb 1 (length f) && leb (length f) 31 && each_printable f

unfoldable pub name : List ℕ → Option (List ℕ)
name f = when (is_name f) f
