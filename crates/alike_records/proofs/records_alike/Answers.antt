-- `alike_records::records_alike` meets its contract. Assumes nothing.
use mathlib.Core.Path.{sym, ◌∙◌}
use Rattle.alike_records.proofs.Staged.{stood, not_said}
use Rattle.alike_records.proofs.records_alike.Goals as goal

pub returns-then-raised-eq0 : goal.returns-then-raised-eq0
returns-then-raised-eq0 c =
    let a = c.args in (
      c.copy_records-raised.auto.dst ∙ c.copy_bytes.auto.dst,
      λ j r.
          let made = c.copy_records-raised.ensures j in
          stood j.source j.destination j.source_formed j.destination_formed a.count a.first.now a.second.now a.staging.now _ _ c.copy_records-raised.result
          a.first_size a.second_size j.source_size j.destination_size c.requires.3 c.copy_bytes.ensures made.0 made.1 c.if-raised-eq0.true (sym c.same_bytes.ensures ∙ r),
    )

pub returns : goal.returns
returns c = (c.copy_records-raised.auto.dst ∙ c.copy_bytes.auto.dst, λ j r. not_said r)
