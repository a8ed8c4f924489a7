-- Document 01, the dead-end report: the set of the dead ends with the number of stages in it, or the first of the refusals 1 to 5 and 15.
use Rattle.std.specs.Prelude.{ℕ, ◌≡◌, List, Result, Ok, Err}
use Rattle.std.specs.Int.Count.{ones}
use Rattle.sets.specs.Number.{number}
use Rattle.format.specs.Refusal.{Given, Clear}
use Rattle.format.specs.Coded.{coded_by}
use Rattle.format.specs.Image.{graph_of}
use Rattle.format.specs.declared.Refusal.{Refusal}
use Rattle.deadends.specs.DeadEnd.{DeadEndsOf, report_conditions}
use Rattle.sets.specs.Stored.{AtFront}
use Rattle.deadends.specs.declared.answer.DeadEnds.{DeadEnds}

-- A report on an image that is not refused: the dead ends of its graph, and how many stages are in that set.
pub record Listed (image : List ℕ) (set count : ℕ) : Type 0 where
  pub clear : Clear (report_conditions image)
  pub dead : DeadEndsOf (graph_of image) set
  pub many : count ≡ ones set

-- What the report answers: the dead ends where nothing is refused, a refusal where document 01 gives it.
abbrev pub ReportAnswer : List ℕ → Result DeadEnds Refusal → Type 0
ReportAnswer image (Ok d) = Listed image (number d.set) d.count
ReportAnswer image (Err k) = Given (report_conditions image) k

-- The number of a report for callers in C: a refusal's own, or 128 and the number of dead ends.
abbrev pub coded : Result DeadEnds Refusal → ℕ
coded = coded_by (λ d. d.count)

-- What a report does to the lent buffer: the set goes to its front, and a refusal changes nothing.
abbrev pub Lent : Result DeadEnds Refusal → List ℕ → List ℕ → Type 0
Lent (Ok d) before after = AtFront before (number d.set) after
Lent (Err k) before after = after ≡ before

-- What the exported function answers: the number of the report on the image, and the buffer after it.
pub record CodedReport (image before : List ℕ) (r : ℕ) (after : List ℕ) : Type 0 where
  pub report : Result DeadEnds Refusal
  pub answer : ReportAnswer image report
  pub code : r ≡ coded report
  pub buffer : Lent report before after
