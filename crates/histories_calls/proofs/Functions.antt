-- The library's functions do what the definitions of `histories` say, by their own promises; so demand 3 holds of them. Assumes nothing.
use Prim.Native.Nat.{ℕ}
use mathlib.Core.Path.{◌≡◌, refl, sym, ap, subst, ◌∙◌}
use mathlib.Core.List.{List}
use Rattle.book.specs.declared.Counts.{Counts}
use Rattle.book.specs.Books.{Book}
use Rattle.book.specs.Layout.{Buffers}
use Rattle.book.specs.View.{view}
use Rattle.book_opening.specs.declared.How.{How}
use Rattle.book_opening.specs.declared.Opened.{Opened}
use Rattle.book_opening.specs.Opening.{Opening, opens, as_list, as_script, left, opening, told}
use Rattle.book_opening.specs.State.{Filled}
use Rattle.lookups.specs.Lookups.{locality_asked, version_asked}
use Rattle.export_list.specs.Membership.{contains_asked}
use Rattle.std.specs.Prelude.{Result}
use Rattle.trial.specs.Changes.{Change, to, no, Leaves, after, counts_after, edit_refusal, edited}
use Rattle.histories.specs.Histories.{Call, settles, undoes, Lent, answer, change, lent_after}
use Rattle.histories.specs.Demand.{lent_book}
use Rattle.histories_calls.specs.Interfaces.{SeenEdit}
use Rattle.histories_calls.specs.Demands.{Accepted, AsSaid, BroughtBackOf, Demand3Of, FreedOf, MovedOnOf, ResumedOf, RunsAsSaid, UndoneAllOf}
use Rattle.histories_calls.specs.Functions.{OpeningRun, script, list, counts_behind, edits, library, edit_seen}
use Rattle.histories_calls.specs.Functions.{EditRun, add_run, strike_run, undo_run, undo_latest_run, settle_run, add_symbol_run}
use Rattle.histories_calls.specs.Functions as functions
use Rattle.histories_calls.proofs.Openings.{opened-book}
use Rattle.histories_calls.proofs.Following.{brought_back_of, demand_3_of, freed_of, moved_on_of, resumed_of, runs_as_said, undone_all_of}

-- ---- an opening that answers 0 leaves the book that it opens
opened_left : (b : Buffers) (o : Opening) (w : Book) → o ≡ opens w → (r : Opened) (b' : Buffers) → r ≡ told o → b' ≡ left b o
    → ◌≡◌ {A = Lent} (record { counts = r.counts; buffers = b' }) (lent_book b w)
unfolding told left
opened_left b o w e r b' p q = rw (p, q, e)

module _ (how : How) (b : Buffers) (s : List ℕ) where
  opened-said : (r : Opened) (b' : Buffers) → Filled (opening how b s) r b b' → r.refusal ≡ 0
      → (w : Book) × (opening how b s ≡ opens w) × (◌≡◌ {A = Lent} (record { counts = r.counts; buffers = b' }) (lent_book b w))
  opened-said r b' p z =
      let w = opened-book how b s (ap (λ (i : Opened). i.refusal) (sym p.0) ∙ z) in
      (w.0, w.1, opened_left b (opening how b s) w.0 w.1 r b' p.0 p.1)

opening_said : (o : OpeningRun) → (functions.opens o).number ≡ 0 → Accepted library o
opening_said (script f) z =
    let w = opened-said as_script (functions.opens (script f)).buffers (functions.opens (script f)).text f.answered _ f.kept z in
    record { book = w.0; placed = refl; opened = w.1; left = w.2 }
opening_said (list f) z =
    let w = opened-said as_list (functions.opens (list f)).buffers (functions.opens (list f)).text f.answered _ f.kept z in
    record { book = w.0; placed = refl; opened = w.1; left = w.2 }

-- ---- an edit answers and leaves what its change says, of whatever it is lent
abbrev Follows : Lent → SeenEdit Lent → Type 0
Follows x d = (d.number ≡ answer x d.call) × (d.left ≡ lent_after x d.call)

lent-said : (d : SeenEdit Lent) → d.number ≡ edit_refusal (edited (change d.lent d.call))
    → d.left.counts ≡ counts_after d.lent.counts (change d.lent d.call) → d.left.buffers ≡ after d.lent.buffers (change d.lent d.call)
    → (x : Lent) → d.lent ≡ x → Follows x d
unfolding answer lent_after
lent-said d p q r x e = subst (λ (i : Lent). Follows i d) e (p, λ i. record { counts = q i; buffers = r i })

counts-said : (c : Counts) (d : Change) → counts_behind c (edited d) ≡ counts_after c d
unfolding edited counts_after
counts-said c (to w) = refl
counts-said c (no n) = refl

made_said : {c : Counts} {b : Buffers} (k : Call) {r : Result Counts ℕ} {b' : Buffers} → Leaves b (change (record { counts = c; buffers = b }) k) r b'
    → (x : Lent) → ◌≡◌ {A = Lent} (record { counts = c; buffers = b }) x → Follows x (edit_seen c b k r b')
made_said {c} {b} k {r} {b'} p x e = lent-said (edit_seen c b k r b') (ap edit_refusal p.0) (ap (counts_behind c) p.0 ∙ counts-said c _) p.1 x e

edit_said : (f : EditRun) (x : Lent) → (edits f).lent ≡ x → Follows x (edits f)
unfolding change
edit_said (add_run f) x e = made_said (edits (add_run f)).call f.kept x e
edit_said (strike_run f) x e = made_said (edits (strike_run f)).call f.kept x e
edit_said (undo_run f) x e = lent-said (edits (undo_run f)) f.kept.0 f.kept.1 f.kept.2 x e
edit_said (undo_latest_run f) x e = made_said undoes f.kept x e
edit_said (settle_run f) x e = made_said settles f.kept x e
edit_said (add_symbol_run f) x e = made_said (edits (add_symbol_run f)).call f.kept x e

-- ---- and a question what is asked of the book that is lent
pub library-said : AsSaid library
library-said = record {
  opening_said = opening_said;
  edit_said = edit_said;
  version_said = λ f x e.
      let q = (library.version f).asked in
      f.kept ∙ ap (λ (z : Lent). version_asked (view z.counts z.buffers) q.0 q.1) e;
  locality_said = λ f x e. f.kept ∙ ap (λ (z : Lent). locality_asked (view z.counts z.buffers) (library.locality f).asked) e;
  member_said = λ f x e. f.kept ∙ ap (λ (z : Lent). contains_asked (view z.counts z.buffers) (library.member f).asked) e;
}

-- ---- the theorems
pub library_runs : RunsAsSaid library
library_runs = runs_as_said library library-said

pub library_demand_3 : Demand3Of library
library_demand_3 = demand_3_of library library-said

pub library_resumed : ResumedOf library
library_resumed = resumed_of library library-said

pub library_moved_on : MovedOnOf library
library_moved_on = moved_on_of library library-said

pub library_freed : FreedOf library
library_freed = freed_of library library-said

pub library_undone_all : UndoneAllOf library
library_undone_all = undone_all_of library library-said

pub library_brought_back : BroughtBackOf library
library_brought_back = brought_back_of library library-said
