-- Demand 3 of any book that is lent (specs/Resumed.antt): what is viewed is held with its own desk, in its rooms as in those that it is moved to. Assumes
-- nothing.
use Prim.Native.Nat.{ℕ, zero, suc}
use mathlib.Core.Path.{◌≡◌, refl, sym, ap, subst, ◌∙◌}
use mathlib.Core.List.{List, [], ◌∷◌, ◌++◌}
use mathlib.Core.Bool.{false}
use Rattle.std.specs.Prelude.{Some}
use native.Mathlib.Omega.{arith}
use lib.Dec.{eqb}
use lib.ListN.{length, get_or, take}
use lib.Seq.{length-take-le, take_all, take_at, take-suc}
use Rattle.packing.specs.Padding.{pad}
use Rattle.packing.specs.Tables.{packed, rows}
use Rattle.packing.proofs.PaddingLaws.{pad-split}
use Rattle.packing.proofs.TableLaws.{length-rows}
use Rattle.book.specs.declared.Counts.{Counts}
use Rattle.book.specs.Books.{Book, Edit, Line, book_frame, rust}
use Rattle.book.specs.Edits.{all_back, take_back}
use Rattle.book.specs.Layout.{Buffers, counts_of, edit_form, laid_out, line_form, node_form}
use Rattle.book.specs.View.{Fits, view}
use Rattle.book.proofs.Forms.{edit_laws, line_laws, node_laws}
use Rattle.book.proofs.Views.{layout_of_view, view_of_layout}
use Rattle.book_opened.proofs.Opened.{Viewable}
use Rattle.histories.specs.Histories.{Desk, Lent, desk_of_book, earlier_lines, led_back, run}
use Rattle.histories.specs.Resumed.{Copied, Moved, MovedOn, MovedTo, Resumed, desk_from, in_rooms}
use Rattle.histories.proofs.Asked.{book_with}
use Rattle.histories.proofs.Trails.{Trail, begins, goes, back_last, earlier_last, last_back, trail-desk}
use Rattle.histories.proofs.Viewables.{journal-sane, viewable_back}
use Rattle.histories.proofs.Calls.{Held, seen}
use Rattle.histories.proofs.EachCall.{held-run}
use Rattle.histories.proofs.Demand.{holds}

-- ---- the trail of a book that can be viewed
module _ (b : Buffers) (w : Book) (k : eqb w.kind rust ≡ false) where
  abbrev OwnTrail : List Edit → List Line → Type 0
  OwnTrail es ls = Trail b w (led_back (all_back es ls)) (earlier_lines es ls) es ls

  goes_on : (es fs : List Edit) (e : Edit) (ls before : List Line) → es ≡ fs ++ e ∷ [] → take_back e ls ≡ Some before
      → Viewable b (book_with w before fs) → OwnTrail fs before → OwnTrail es ls
  goes_on es fs e ls before z h v t =
      let m : led_back (all_back es ls) ≡ led_back (all_back fs before)
      = ap (λ (i : List Edit). led_back (all_back i ls)) z ∙ ap led_back (back_last fs e ls before h) in
      let q : earlier_lines es ls ≡ before ∷ earlier_lines fs before = ap (λ (i : List Edit). earlier_lines i ls) z ∙ earlier_last fs e ls before h in
      subst (λ (i : List Line). Trail b w i (earlier_lines es ls) es ls) (sym m)
      (subst (λ (i : List (List Line)). Trail b w (led_back (all_back fs before)) i es ls) (sym q) (goes fs e before z h v t))

  own_trail : (n : ℕ) (es : List Edit) (ls : List Line) → length es ≡ n → Viewable b (book_with w ls es) → OwnTrail es ls
  unfolding all_back earlier_lines
  own_trail zero [] ls z v = begins refl refl
  own_trail zero (e ∷ es) ls z v = absurd (omega arith)
  own_trail (suc n) es ls z v =
      let fs : List Edit = take n es in
      let e : Edit = get_or es n (record { what = 0; line = 0 }) in
      let s : es ≡ fs ++ e ∷ [] = sym (take_all (suc n) es (omega arith)) ∙ take-suc es n (record { what = 0; line = 0 }) (omega arith) in
      let u : Viewable b (book_with w ls (fs ++ e ∷ [])) = subst (λ (i : List Edit). Viewable b (book_with w ls i)) s v in
      let g = last_back fs e ls (journal-sane b w ls (fs ++ e ∷ []) u) in
      let v' = viewable_back b w k ls g.0 fs e u g.1 g.2 in
      goes_on es fs e ls g.0 s g.1 v' (own_trail n fs g.0 (length-take-le n es (omega arith)) v')

-- counts and buffers in which a book is viewed hold it, with its own desk
pub held-viewed : (w : Book) (ls : List Line) (es : List Edit) (x : Lent) → eqb w.kind rust ≡ false
    → view x.counts x.buffers ≡ Some (book_with w ls es) → Held x.buffers w (desk_of_book (book_with w ls es)) x
unfolding desk_of_book
held-viewed w ls es x k h =
    let t = layout_of_view x.counts x.buffers (book_with w ls es) h in
    let v : Viewable x.buffers (book_with w ls es) = record { fits = t.2; sane = t.3 } in
    record {
      edits = es;
      lent = λ i. record { counts = t.0 i; buffers = t.1 i };
      sound = record { viewable = v; trail = own_trail x.buffers w k (length es) es ls refl v };
    }

-- ---- demand 3 of it
pub resumed : Resumed
resumed x w ks h k =
    holds x.buffers w k (desk_from w (desk_of_book w) x ks) (run x ks)
    (held-run x.buffers w k ks (desk_of_book w) x (held-viewed w w.lines w.edits x k h))

-- ---- other rooms
-- what is copied of a list and its padding is padded by the new room
copied_pad : (n : ℕ) (l m xs : List ℕ) → Copied n l m → l ≡ pad (length l) xs → length xs ≡ n → m ≡ pad (length m) xs
unfolding pad
copied_pad n l m xs c e z =
    let f : take n l ≡ xs = ap (take n) e ∙ take_at xs _ n z in
    pad-split m n c.room c.rest ∙ ap (pad (length m)) (c.same ∙ f)

pub moved : Moved
unfolding counts_of laid_out node_form line_form edit_form
moved c b b' w h t =
    let r = layout_of_view c b w h in
    let q : c ≡ counts_of w = r.0 in
    let n = length-rows node_laws 0 w.nodes in
    let l = length-rows (line_laws (book_frame w)) 0 w.lines in
    let j = length-rows edit_laws 0 w.edits in
    let u : MovedTo (counts_of w) b b' = subst (λ (i : Counts). MovedTo i b b') q t in
    let e : b' ≡ laid_out b' w = λ i. record {
      nodes = copied_pad _ b.nodes b'.nodes (rows node_form 0 w.nodes) u.nodes (λ i. (r.1 i).nodes) n i;
      names = copied_pad _ b.names b'.names (packed node_form w.nodes) u.names (λ i. (r.1 i).names) refl i;
      lines = copied_pad _ b.lines b'.lines (rows line_form 0 w.lines) u.lines (λ i. (r.1 i).lines) l i;
      pool = copied_pad _ b.pool b'.pool (packed line_form w.lines) u.pool (λ i. (r.1 i).pool) refl i;
      journal = copied_pad _ b.journal b'.journal (rows edit_form 0 w.edits) u.journal (λ i. (r.1 i).journal) j i;
    } in
    let f : Fits b' w = record {
      node_room = u.nodes.room;
      name_room = u.names.room;
      line_room = u.lines.room;
      pool_room = u.pool.room;
      edit_room = u.journal.room;
      few_nodes = r.2.few_nodes;
      few_lines = r.2.few_lines;
      few_bytes = r.2.few_bytes;
      few_edits = r.2.few_edits;
      lines_ok = r.2.lines_ok;
      edits_ok = r.2.edits_ok;
    } in
    (λ i. view (q i) (e i)) ∙ view_of_layout b' w f r.3

-- and demand 3 goes on from the same desk
pub moved_on : MovedOn
moved_on x w ks b' ls h k t =
    let y : Lent = run x ks in
    let d : Desk = desk_from w (desk_of_book w) x ks in
    let g : Held x.buffers w d y = held-run x.buffers w k ks (desk_of_book w) x (held-viewed w w.lines w.edits x k h) in
    let u : Book = book_with w d.lines g.edits in
    let a = held-viewed w d.lines g.edits (in_rooms y b') k (moved y.counts y.buffers b' u (seen x.buffers w d y g) t) in
    let m : Held b' w d (in_rooms y b') = subst (λ (i : Desk). Held b' w i (in_rooms y b')) (trail-desk g.sound.trail) a in
    holds b' w k (desk_from w d (in_rooms y b') ls) (run (in_rooms y b') ls) (held-run b' w k ls d (in_rooms y b') m)
