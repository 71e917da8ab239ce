-- Promises that are written out: the one that is no plain equation of the answer, and those of reader and of `trial_undo::undo`, which proofs/Walked.antt shows
-- to be what their clauses say. Of these a are the arguments, r is the answer, and e are the parameters at exit. Assumes nothing.
use Rattle.std.specs.Prelude.{ℕ, ◌≤◌, ◌≡◌, List, length, take}
use Rattle.linker_script.specs.Trim.{trim_end}
use Rattle.reading.specs.Scripts.{next as next_of}
use Rattle.book.specs.Layout.{five}
use Rattle.book.specs.View.{view}
use Rattle.trial.specs.Changes.{after, counts_after, edit_refusal, edited}
use Rattle.trial.specs.Trial.{undo_asked}
use Rattle.uniqueness.specs.Unique.{Promise}
use Rattle.reader.specs.contracts.new
use Rattle.reader.specs.contracts.next
use Rattle.reader.specs.contracts.step
use Rattle.trial_undo.specs.contracts.undo

-- ---- linker_script: the length r of a text s without the blanks at its end
abbrev pub Trimmed : List ℕ → ℕ → Type 0
Trimmed s r = (r ≤ length s) × (take r s ≡ trim_end s)

-- ---- reader
abbrev pub New : Promise new.ended
New κs a r e = (r.text ≡ a.0) × (r.last ≡ a.1.0) × (r.cursor ≡ a.1.1.0)

abbrev pub Next : Promise next.ended
Next κs a r e = r ≡ next_of a.0.text.now a.0.cursor

abbrev pub Step : Promise step.ended
Step κs a r e = r ≡ next_of a.0.now a.1.1.0

-- ---- trial_undo
abbrev pub Undo : Promise undo.ended
Undo κs a r e =
    let b = five a.1.0.now a.1.1.0.now a.1.1.1.0.now a.1.1.1.1.0.now a.1.1.1.1.1.0.now in
    let c = undo_asked (view a.0.now b) in
    (r ≡ edit_refusal (edited c)) × (e.0.now ≡ counts_after a.0.now c)
    × (five b.nodes b.names e.1.1.1.0.now e.1.1.1.1.0.now e.1.1.1.1.1.0.now ≡ after b c)
