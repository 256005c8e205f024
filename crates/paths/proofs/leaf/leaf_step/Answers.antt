-- `paths::leaf::leaf_step` meets its contract. Assumes nothing.
use Rattle.paths.proofs.LeafSteps.{step_laws}
use Rattle.paths.proofs.leaf.leaf_step.Goals as goal

pub kind_at-kind-requires : goal.kind_at-kind-requires
kind_at-kind-requires c = search step_laws

pub type_word-first-requires : goal.type_word-first-requires
type_word-first-requires c = search step_laws

pub type_word-n-requires : goal.type_word-n-requires
type_word-n-requires c = search step_laws

pub row_over-requires : goal.row_over-requires
row_over-requires c = search step_laws

pub enum_known-j : goal.enum_known-j
enum_known-j c = search step_laws

pub row_word-requires : goal.row_word-requires
row_word-requires c = search step_laws

pub row_word-requires-in-Some : goal.row_word-requires-in-Some
row_word-requires-in-Some c = search step_laws

pub minus-requires : goal.minus-requires
minus-requires c = search step_laws

pub enum_told-1 : goal.enum_told-1
enum_told-1 c = search step_laws

pub type_word-z-requires : goal.type_word-z-requires
type_word-z-requires c = search step_laws

pub type_word-k-requires : goal.type_word-k-requires
type_word-k-requires c = search step_laws

pub type_word-y-requires : goal.type_word-y-requires
type_word-y-requires c = search step_laws

pub remainder-requires : goal.remainder-requires
remainder-requires c = search step_laws

pub returns-in-Some : goal.returns-in-Some
returns-in-Some c = search step_laws

pub returns-in-None : goal.returns-in-None
returns-in-None c = search step_laws

pub returns-then-byte-z : goal.returns-then-byte-z
returns-then-byte-z c = search step_laws

pub returns-else-byte-z : goal.returns-else-byte-z
returns-else-byte-z c = search step_laws

pub returns-then-byte-eq0 : goal.returns-then-byte-eq0
returns-then-byte-eq0 c = search step_laws

pub returns-else-byte-eq0 : goal.returns-else-byte-eq0
returns-else-byte-eq0 c = search step_laws
