-- Functions that do what the definitions say, called one behind the other, have the history that the definitions have, so that demand 3 holds of them: for
-- any interface. Assumes nothing.
use Prim.Native.Nat.{ℕ}
use mathlib.Core.Path.{◌≡◌, refl, sym, ap, subst, ◌∙◌}
use mathlib.Core.List.{List, [], ◌∷◌, ◌++◌}
use mathlib.Core.Bool.{true, false, cond}
use lib.Dec.{eqb}
use lib.ListN.{length}
use Rattle.numbers.specs.declared.Edition.{Edition}
use Rattle.lists.specs.Each.{every}
use Rattle.book.specs.Books.{Book, book_frame, edition_of, rust}
use Rattle.book.specs.Edits.{stands}
use Rattle.book.specs.Layout.{Buffers}
use Rattle.book_opening.specs.Opening.{opening}
use Rattle.trial.specs.Trial.{standing}
use Rattle.histories.specs.Histories.{Call, settles, Desk, Lent, Told, desk_at, desk_of_book, edits_left, follow, history, leads, lent_after, nothing_dropped, run, undos}
use Rattle.histories.specs.Demand.{Holds, desk_behind, lent_behind, lent_opening}
use Rattle.histories.specs.Resumed.{desk_from, in_rooms}
use Rattle.histories.proofs.Counted.{leads_on, run_on}
use Rattle.histories.proofs.Demand.{brought_back, demand_3, freed, lent-opened, undone_all}
use Rattle.histories.proofs.Resumed.{moved_on, resumed}
use Rattle.histories_calls.specs.Interfaces.{Interface, InTurn, calls, tellings}
use Rattle.histories_calls.specs.Demands.{Accepted, AsSaid, Demanded, Undoing, desk_after, desk_of}
use Rattle.histories_calls.specs.Demands.{BroughtBackOf, Demand3Of, FreedOf, MovedOnOf, ResumedOf, RunsAsSaid, UndoneAllOf}

-- ---- runs behind runs
module _ (I : Interface) where
  in_turn_first : (x z : I.Holding) (fs gs : List I.EditRun) → InTurn I x (fs ++ gs) z → (y : I.Holding) × InTurn I x fs y
  unfolding InTurn
  in_turn_first x z [] gs p = (x, refl)
  in_turn_first x z (f ∷ fs) gs p =
      let r = in_turn_first (I.edits f).left z fs gs p.1 in
      (r.0, (p.0, r.1))

  calls_on : (fs gs : List I.EditRun) → calls I (fs ++ gs) ≡ calls I fs ++ calls I gs
  unfolding calls
  calls_on [] gs = refl
  calls_on (f ∷ fs) gs = ap (λ (ks : List Call). (I.edits f).call ∷ ks) (calls_on fs gs)

  told_on : (e : Edition) (d : Desk) (fs gs : List I.EditRun) → leads e d (tellings I (fs ++ gs)) ≡ leads e (leads e d (tellings I fs)) (tellings I gs)
  unfolding tellings leads
  told_on e d [] gs = refl
  told_on e d (f ∷ fs) gs = told_on e (cond (eqb (I.edits f).number 0) (follow e d (I.edits f).call) d) fs gs

module _ (I : Interface) (said : AsSaid I) where
  pub runs_as_said : RunsAsSaid I
  unfolding InTurn calls tellings history run
  runs_as_said x [] y p = (refl, sym p)
  runs_as_said x (f ∷ fs) y p =
      let s = said.edit_said f x p.0 in
      let k : Call = (I.edits f).call in
      let r = runs_as_said (lent_after x k) fs y (subst (λ (z : I.Holding). InTurn I z fs y) s.1 p.1) in
      (λ i. record { call = k; number = s.0 i } ∷ r.0 i, r.1)

  -- what holds of a history holds of the calls that have it
  demanded_from : (b : Buffers) (w : Book) (d : Desk) (x : Lent) (fs : List I.EditRun) (y : I.Holding) → InTurn I (I.holding x) fs y
      → Holds b w (run x (calls I fs)) (leads (edition_of (book_frame w)) d (history x (calls I fs))) → Demanded I b w (desk_after I w d fs) y
  demanded_from b w d x fs y p g =
      let r = runs_as_said x fs y p in
      let l : Lent = run x (calls I fs) in
      let h : Holds b w l (desk_after I w d fs) = subst (Holds b w l) (sym (ap (leads (edition_of (book_frame w)) d) r.0)) g in
      record {
        lent = l;
        held = r.1;
        holds = h;
        answers = λ f q. (said.edit_said f l (q ∙ r.1)).0;
        version = λ f q. subst (I.version f).answers (h.version (I.version f).asked.0 (I.version f).asked.1) (said.version_said f l (q ∙ r.1));
        locality = λ f q. subst (I.locality f).answers (h.locality (I.locality f).asked) (said.locality_said f l (q ∙ r.1));
        member = λ f q. subst (I.member f).answers (h.member (I.member f).asked) (said.member_said f l (q ∙ r.1));
        undone = λ us v q c. (runs_as_said l us v (subst (λ (z : I.Holding). InTurn I z us v) r.1 q)).1
            ∙ ap (λ (i : List Call). I.holding (run l i)) c
            ∙ ap I.holding h.undone;
      }

  pub resumed_of : ResumedOf I
  resumed_of x w v k fs y p = demanded_from x.buffers w (desk_of_book w) x fs y p (resumed x w (calls I fs) v k)

  pub moved_on_of : MovedOnOf I
  moved_on_of x w v k fs y p b' t gs z q =
      let r = runs_as_said x fs y p in
      let l : Lent = in_rooms (run x (calls I fs)) b' in
      let d : Desk = desk_after I w (desk_of_book w) fs in
      let h : Holds b' w (run l (calls I gs)) (desk_from w d l (calls I gs))
      = subst (λ (i : List Told). Holds b' w (run l (calls I gs)) (desk_from w (leads (edition_of (book_frame w)) (desk_of_book w) i) l (calls I gs)))
      (sym r.0) (moved_on x w (calls I fs) b' (calls I gs) v k t) in
      demanded_from b' w d l gs z q h

  module _ (o : I.OpeningRun) (a : Accepted I o) (k : eqb a.book.kind rust ≡ false) where
    abbrev w : Book
    w = a.book

    abbrev e : Edition
    e = edition_of (book_frame w)

    -- what calls leave behind the opening, and their desk
    abbrev behind : List Call → Lent
    behind = lent_behind (I.opens o).how (I.opens o).buffers (I.opens o).text

    abbrev desk : List Call → Desk
    desk = desk_behind (I.opens o).how (I.opens o).buffers (I.opens o).text w

    abbrev x : Lent
    x = lent_opening (I.opens o).buffers (opening (I.opens o).how (I.opens o).buffers (I.opens o).text)

    opened_left : (I.opens o).left ≡ I.holding x
    opened_left = a.left ∙ ap I.holding (sym (lent-opened (I.opens o).buffers _ w a.opened))

    module _ (fs : List I.EditRun) (y : I.Holding) (p : InTurn I (I.opens o).left fs y) where
      runs : (tellings I fs ≡ history x (calls I fs)) × (y ≡ I.holding (run x (calls I fs)))
      runs = runs_as_said x fs y (subst (λ (z : I.Holding). InTurn I z fs y) opened_left p)

      desk_same : desk_of I w fs ≡ desk (calls I fs)
      desk_same = ap (leads e (desk_at w.lines)) runs.0

      demanded : Demanded I (I.opens o).buffers w (desk_of I w fs) y
      demanded =
          let p' = subst (λ (z : I.Holding). InTurn I z fs y) opened_left p in
          demanded_from (I.opens o).buffers w (desk_at w.lines) x fs y p'
          (demand_3 (I.opens o).how (I.opens o).buffers (I.opens o).text w (calls I fs) a.placed a.opened k)

    -- edits, edits behind them, and undos
    module _ (fs gs us : List I.EditRun) (y z v : I.Holding) (u : Undoing I o w fs gs us y z v) where
      abbrev ks : List Call
      ks = calls I fs

      abbrev ls : List Call
      ls = calls I gs

      first : (tellings I fs ≡ history x ks) × (y ≡ I.holding (behind ks))
      first = runs fs y u.first

      later : (tellings I gs ≡ history (behind ks) ls) × (z ≡ I.holding (run (behind ks) ls))
      later = runs_as_said (behind ks) gs z (subst (λ (i : I.Holding). InTurn I i gs z) first.1 u.later)

      back : (tellings I us ≡ history (run (behind ks) ls) (calls I us)) × (v ≡ I.holding (run (run (behind ks) ls) (calls I us)))
      back = runs_as_said (run (behind ks) ls) us v (subst (λ (i : I.Holding). InTurn I i us v) later.1 u.back)

      none : (desk ks).earlier ≡ []
      none = rw (← desk_same fs y u.first) u.nothing

      -- undos that lead to what ks left
      led : (n : ℕ) → calls I us ≡ undos n → run (behind (ks ++ ls)) (undos n) ≡ behind ks → v ≡ y
      led n c r =
          back.1
          ∙ ap (λ (i : List Call). I.holding (run (run (behind ks) ls) i)) c
          ∙ ap (λ (i : Lent). I.holding (run i (undos n))) (sym (run_on x ks ls))
          ∙ ap I.holding r
          ∙ sym first.1

    undone : (fs gs us : List I.EditRun) (y z v : I.Holding) → Undoing I o w fs gs us y z v
        → nothing_dropped e (desk_of I w fs) (tellings I gs) ≡ true → calls I us ≡ undos (edits_left 0 (tellings I gs)) → v ≡ y
    undone fs gs us y z v u whole c =
        let h = (later fs gs us y z v u).0 in
        led fs gs us y z v u (edits_left 0 (tellings I gs)) c
        (rw h (undone_all (I.opens o).how (I.opens o).buffers (I.opens o).text w (calls I fs) (calls I gs) a.placed a.opened k
        (none fs gs us y z v u) (rw (desk_same fs y u.first, h) at whole)))

    brought : (fs gs us : List I.EditRun) (y z v : I.Holding) → Undoing I o w fs gs us y z v
        → (desk_of I w (fs ++ gs)).moment ≡ (desk_of I w fs).moment → calls I us ≡ undos (length (desk_of I w (fs ++ gs)).earlier) → v ≡ y
    brought fs gs us y z v u same c =
        let f = desk_same fs y u.first in
        let d : desk_of I w (fs ++ gs) ≡ desk (calls I fs ++ calls I gs)
        = told_on I e (desk_at w.lines) fs gs
        ∙ (λ i. leads e (f i) ((later fs gs us y z v u).0 i))
        ∙ sym (leads_on e (desk_at w.lines) x (calls I fs) (calls I gs)) in
        led fs gs us y z v u (length (desk_of I w (fs ++ gs)).earlier) c
        (rw d (brought_back (I.opens o).how (I.opens o).buffers (I.opens o).text w (calls I fs) (calls I gs) a.placed a.opened k
        (none fs gs us y z v u) (rw (d, f) at same)))

    settled : (fs : List I.EditRun) (f : I.EditRun) (y : I.Holding) → InTurn I (I.opens o).left (fs ++ f ∷ []) y → (I.edits f).call ≡ settles
        → ((desk_of I w (fs ++ f ∷ [])).lines ≡ standing (desk_of I w fs).lines)
        × (every stands (desk_of I w fs).lines ≡ false → (desk_of I w (fs ++ f ∷ [])).earlier ≡ [])
    unfolding calls
    settled fs f y p c =
        let i = in_turn_first I (I.opens o).left y fs (f ∷ []) p in
        let g = desk_same fs i.0 i.1 in
        let d : desk_of I w (fs ++ f ∷ []) ≡ desk (calls I fs ++ settles ∷ [])
        = desk_same (fs ++ f ∷ []) y p ∙ ap desk (calls_on I fs (f ∷ []) ∙ ap (λ (k : Call). calls I fs ++ k ∷ []) c) in
        rw (d, g) (freed (I.opens o).how (I.opens o).buffers (I.opens o).text w (calls I fs) a.placed a.opened k)

  pub demand_3_of : Demand3Of I
  demand_3_of o a k fs y p = demanded o a k fs y p

  pub freed_of : FreedOf I
  freed_of o a k fs f y p c = settled o a k fs f y p c

  pub undone_all_of : UndoneAllOf I
  undone_all_of o a k fs gs us y z v u whole c = undone o a k fs gs us y z v u whole c

  pub brought_back_of : BroughtBackOf I
  brought_back_of o a k fs gs us y z v u same c = brought o a k fs gs us y z v u same c
