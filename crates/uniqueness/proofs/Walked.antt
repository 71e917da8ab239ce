-- reader and `trial_undo::undo` leave one answer and one end state. Their promises are written out (specs/Promises.antt), and shown here to be what their clauses
-- say. Assumes nothing.
use mathlib.Core.Path.{refl}
use Rattle.uniqueness.specs.Unique.{Says, Unique}
use Rattle.uniqueness.specs.Promises.{New, Next, Step, Undo}
use Rattle.uniqueness.proofs.Same.{◌▹◌, same}
use Rattle.reader.specs.contracts.new
use Rattle.reader.specs.contracts.next
use Rattle.reader.specs.contracts.step
use Rattle.trial_undo.specs.contracts.undo

-- ---- reader
pub new-says : Says new.ended (λ w. new.clauses w.𝓛 w.𝓜.mem w.𝓡.run) New
new-says w κs a g x e = refl

pub new_unique : Unique new.ended New
new_unique κs a x y v w p q =
    (λ i. record { text = same p.0 q.0 i; last = same p.1 q.1 i; cursor = same p.2 q.2 i }, refl)

pub next_says : Says next.ended (λ w. next.clauses w.𝓛 w.𝓜.mem w.𝓡.run) Next
next_says w κs a g x e = refl

pub next_unique : Unique next.ended Next
next_unique κs a x y v w p q = (same p q, refl)

pub step-says : Says step.ended (λ w. step.clauses w.𝓛 w.𝓜.mem w.𝓡.run) Step
step-says w κs a g x e = refl

pub step_unique : Unique step.ended Step
step_unique κs a x y v w p q = (same p q, refl)

-- ---- trial_undo
pub undo-says : Says undo.ended (λ w. undo.clauses w.𝓛 w.𝓜.mem w.𝓡.run) Undo
undo-says w κs a g x e = refl

pub undo_unique : Unique undo.ended Undo
undo_unique κs a x y v w p q =
    let b = same p.2 q.2 in
    (same p.0 q.0, λ i. same p.1 q.1 i ▹ tt ▹ tt ▹ (b i).lines ▹ (b i).pool ▹ (b i).journal ▹ tt)
