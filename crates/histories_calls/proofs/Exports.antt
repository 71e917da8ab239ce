-- The exported functions do what the definitions of `histories` say, by their own promises, with the counts as six numbers, and six numbers stay six; so
-- demand 3 holds of them. Assumes nothing.
use Prim.Native.Nat.{ℕ}
use mathlib.Core.Path.{◌≡◌, refl, sym, ap, subst, ◌∙◌}
use mathlib.Core.List.{List}
use mathlib.Core.Bool.{Bool, true, false, cond}
use Rattle.std.specs.Prelude.{Option}
use native.Mathlib.Omega.{arith}
use Rattle.numbers.specs.Limits.{over, script_limit}
use Rattle.numbers.specs.Refusals.{no_room, too_long}
use Rattle.book.specs.declared.Counts.{Counts}
use Rattle.book.specs.Books.{Book}
use Rattle.book.specs.Layout.{Buffers}
use Rattle.book.specs.View.{view}
use Rattle.book_opening.specs.declared.How.{How}
use Rattle.book_opening.specs.Opening.{Opening, opens, declined, as_list, as_script, left, opening, told}
use Rattle.lookups.specs.Lookups.{locality_asked, version_asked}
use Rattle.export_list.specs.Membership.{contains_asked}
use Rattle.trial.specs.Changes.{Change, to, no, after, counts_after, edit_refusal, edited}
use Rattle.c_lending.specs.Calls.{counts_edited, counts_left, counts_row, lent, opening_told, opening_with, six}
use Rattle.c_lending.specs.Calls as calls
use Rattle.histories.specs.Histories.{Lent, answer, change, lent_after}
use Rattle.histories.specs.Demand.{lent_book}
use Rattle.histories_calls.specs.Interfaces.{SeenEdit}
use Rattle.histories_calls.specs.Demands.{Accepted, AsSaid, BroughtBackOf, Demand3Of, FreedOf, MovedOnOf, ResumedOf, RunsAsSaid, UndoneAllOf}
use Rattle.histories_calls.specs.Exports.{Six, OpeningRun, script, list, edits, exports, in_six}
use Rattle.histories_calls.specs.Exports.{EditRun, add_run, strike_run, undo_run, settle_run, add_symbol_run}
use Rattle.histories_calls.specs.Exports as the
use Rattle.histories_calls.proofs.Openings.{opened-book}
use Rattle.histories_calls.proofs.Following.{brought_back_of, demand_3_of, freed_of, moved_on_of, resumed_of, runs_as_said, undone_all_of}

-- ---- an opening that answers 0 was lent six numbers, and leaves the book that it opens
opened_with : (how : How) (l : List ℕ) (b : Buffers) (s : List ℕ) → opening_told (opening_with how l b s) ≡ 0 → opening_with how l b s ≡ opening how b s
unfolding opening_with opening_told told
opened_with how l b s z = go (over script_limit s) (six l) z
  where
    go : (t u : Bool) → opening_told (cond t (declined too_long 0) (cond u (opening how b s) (declined no_room 0))) ≡ 0
        → cond t (declined too_long 0) (cond u (opening how b s) (declined no_room 0)) ≡ opening how b s
    go true u n = absurd (omega arith)
    go false true n = refl
    go false false n = absurd (omega arith)

told-nothing : (o : Opening) → opening_told o ≡ 0 → (told o).refusal ≡ 0
unfolding opening_told
told-nothing o z = omega arith

left_in_six : (l : List ℕ) (b : Buffers) (o : Opening) (w : Book) → o ≡ opens w → (l' : List ℕ) (b' : Buffers) → l' ≡ counts_left l o → b' ≡ left b o
    → ◌≡◌ {A = Six} (record { counts = l'; buffers = b' }) (in_six (lent_book b w))
unfolding counts_left left
left_in_six l b o w e l' b' p q = rw (p, q, e)

opened_left : (how : How) (l : List ℕ) (b : Buffers) (s : List ℕ) (r : ℕ) (l' : List ℕ) (b' : Buffers) → calls.Opens how l b s r l' b' → r ≡ 0
    → (w : Book) × (opening how b s ≡ opens w) × (◌≡◌ {A = Six} (record { counts = l'; buffers = b' }) (in_six (lent_book b w)))
unfolding calls.Opens
opened_left how l b s r l' b' p z =
    let y : opening_told (opening_with how l b s) ≡ 0 = sym p.0 ∙ z in
    let o : opening_with how l b s ≡ opening how b s = opened_with how l b s y in
    let w = opened-book how b s (told-nothing (opening how b s) (rw o at y)) in
    (w.0, w.1, left_in_six l b (opening_with how l b s) w.0 (o ∙ w.1) l' b' p.1 p.2)

opening_said : (o : OpeningRun) → (the.opens o).number ≡ 0 → Accepted exports o
opening_said (script f) z =
    let w = opened_left as_script _ (the.opens (script f)).buffers (the.opens (script f)).text f.answered _ _ f.kept z in
    record { book = w.0; placed = refl; opened = w.1; left = w.2 }
opening_said (list f) z =
    let w = opened_left as_list _ (the.opens (list f)).buffers (the.opens (list f)).text f.answered _ _ f.kept z in
    record { book = w.0; placed = refl; opened = w.1; left = w.2 }

-- ---- an edit that is lent six numbers answers and leaves what its change says
-- six numbers are read as the counts that they were made of
in_six-view : (x : Lent) → lent (counts_row x.counts) x.buffers ≡ view x.counts x.buffers
unfolding lent
in_six-view x = refl

counts-said : (c : Counts) (d : Change) → counts_edited (counts_row c) d ≡ counts_row (counts_after c d)
unfolding counts_edited counts_after
counts-said c (to w) = refl
counts-said c (no n) = refl

abbrev Follows : Lent → SeenEdit Six → Type 0
Follows x d = (d.number ≡ answer x d.call) × (d.left ≡ in_six (lent_after x d.call))

made_said : (d : SeenEdit Six) (ask : Buffers → Option Book → Change)
    → calls.Edits d.lent.counts d.lent.buffers ask d.number d.left.counts d.left.buffers
    → (x : Lent) → ask x.buffers (view x.counts x.buffers) ≡ change x d.call → d.lent ≡ in_six x → Follows x d
unfolding calls.Edits answer lent_after
made_said d ask p x c e =
    let q : calls.Edits (counts_row x.counts) x.buffers ask d.number d.left.counts d.left.buffers
    = subst (λ (i : Six). calls.Edits i.counts i.buffers ask d.number d.left.counts d.left.buffers) e p in
    let a : ask x.buffers (lent (counts_row x.counts) x.buffers) ≡ change x d.call = ap (ask x.buffers) (in_six-view x) ∙ c in (
      q.0 ∙ ap (λ (i : Change). edit_refusal (edited i)) a,
      λ i. record {
        counts = (q.1 ∙ ap (counts_edited (counts_row x.counts)) a ∙ counts-said x.counts (change x d.call)) i;
        buffers = (q.2 ∙ ap (after x.buffers) a) i;
      },
    )

edit_said : (f : EditRun) (x : Lent) → (edits f).lent ≡ in_six x → Follows x (edits f)
unfolding change
edit_said (add_run f) x e = made_said (edits (add_run f)) _ f.kept x refl e
edit_said (strike_run f) x e = made_said (edits (strike_run f)) _ f.kept x refl e
edit_said (undo_run f) x e = made_said (edits (undo_run f)) _ f.kept x refl e
edit_said (settle_run f) x e = made_said (edits (settle_run f)) _ f.kept x refl e
edit_said (add_symbol_run f) x e = made_said (edits (add_symbol_run f)) _ f.kept x refl e

-- ---- and a question what is asked of the book that is lent
seen : (s : Six) (x : Lent) → s ≡ in_six x → lent s.counts s.buffers ≡ view x.counts x.buffers
seen s x e = ap (λ (i : Six). lent i.counts i.buffers) e ∙ in_six-view x

pub exports-said : AsSaid exports
exports-said = record {
  opening_said = opening_said;
  edit_said = edit_said;
  version_said = λ f x e.
      let q = (exports.version f).asked in
      subst (λ (w : Option Book). (exports.version f).answers (version_asked w q.0 q.1)) (seen (exports.version f).lent x e) f.kept;
  locality_said = λ f x e.
      subst (λ (w : Option Book). (exports.locality f).answers (locality_asked w (exports.locality f).asked))
      (seen (exports.locality f).lent x e) f.kept;
  member_said = λ f x e.
      subst (λ (w : Option Book). (exports.member f).answers (contains_asked w (exports.member f).asked))
      (seen (exports.member f).lent x e) f.kept;
}

-- ---- the theorems
pub exports_runs : RunsAsSaid exports
exports_runs = runs_as_said exports exports-said

pub exports_demand_3 : Demand3Of exports
exports_demand_3 = demand_3_of exports exports-said

pub exports_resumed : ResumedOf exports
exports_resumed = resumed_of exports exports-said

pub exports_moved_on : MovedOnOf exports
exports_moved_on = moved_on_of exports exports-said

pub exports_freed : FreedOf exports
exports_freed = freed_of exports exports-said

pub exports_undone_all : UndoneAllOf exports
exports_undone_all = undone_all_of exports exports-said

pub exports_brought_back : BroughtBackOf exports
exports_brought_back = brought_back_of exports exports-said
