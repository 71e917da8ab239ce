-- A book of the Regular kind or an export list with other lines and edits: with a line more, with one struck, with those alone that stand, and with its latest
-- edit taken back, it fits and is sane again. Assumes nothing.
use Prim.Native.Nat.{ℕ, ◌+◌, ◌*◌, ◌≤◌, ◌<◌}
use mathlib.Core.Path.{◌≡◌, refl, sym, ap, subst, ◌∙◌}
use mathlib.Core.List.{List, [], ◌∷◌, ◌++◌}
use mathlib.Core.Bool.{Bool, true, false, cond, not, ◌&&◌, true≢false}
use Rattle.std.specs.Prelude.{Some, None}
use native.Mathlib.Omega.{arith}
use borrow.Author.Tests.{leb-true, ltb-true}
use lib.Dec.{eqb, ltb}
use lib.ListN.{length, drop, set, take, length-append, length-set, take-append-drop}
use Rattle.numbers.specs.Limits.{edit_limit}
use Rattle.lists.proofs.Tests.{both}
use Rattle.lists.specs.Each.{every}
use Rattle.packing.specs.Tables.{packed}
use Rattle.packing.proofs.TableLaws.{every_append, every_at, every_front, every_set, packed-append, packed-set}
use Rattle.book.specs.Books.{Book, Edit, Line, add, book_frame, no_line, rust}
use Rattle.book.specs.declared.Frame.{Frame}
use Rattle.book.specs.Edits.{add_back, all_back, journal_fits, line_at, marked, stands, strike_back, take_back}
use Rattle.book.specs.Layout.{Buffers, edit_width, line_form}
use Rattle.book.specs.Sanity.{edit_ok, kind_good, line_ok, nodes_good, sane}
use Rattle.book_rooms.specs.Rooms.{edit_room, line_room}
use Rattle.book_opened.proofs.Opened.{Viewable}
use Rattle.trial.specs.Trial.{standing, with_line}
use Rattle.trial.proofs.AddedLines.{fits_line}
use Rattle.trial.proofs.Marking.{marked_ok}
use Rattle.trial.proofs.Standing.{standing-bytes, standing-every, standing-length, standing-stand}
use Rattle.histories.proofs.Asked.{book_with}
use Rattle.histories.proofs.Trails.{journal_last}

-- ---- the lines before an edit that is taken back: no more of them and of their bytes, and each is as asked
record Before (ok : Line → Bool) (ls before : List Line) : Type 0 where
  long : length before ≤ length ls
  bytes : length (packed line_form before) ≤ length (packed line_form ls)
  all : every ok before ≡ true

-- what is given where a test holds
given : (t : Bool) (a b : List Line) → cond t (Some a) None ≡ Some b → (t ≡ true) × (a ≡ b)
given true a b e = (refl, cc)
given false a b e = absurd (true≢false (cc))

module _ (f : Frame) (ls before : List Line) (o : every (line_ok f) ls ≡ true) where
  before_add : (i : ℕ) → add_back i ls ≡ Some before → Before (line_ok f) ls before
  unfolding add_back
  before_add i h =
      let g = given (eqb (length ls) (i + 1) && stands (line_at ls i)) (take i ls) before h in
      let a : take i ls ++ drop i ls ≡ ls = take-append-drop i ls in
      let n : length (take i ls) + length (drop i ls) ≡ length ls = sym (length-append (take i ls) (drop i ls)) ∙ ap length a in
      let p : length (packed line_form (take i ls)) + length (packed line_form (drop i ls)) ≡ length (packed line_form ls)
      = sym (length-append (packed line_form (take i ls)) (packed line_form (drop i ls)))
      ∙ ap length (sym (packed-append line_form (take i ls) (drop i ls)))
      ∙ ap (λ (x : List Line). length (packed line_form x)) a in
      subst (Before (line_ok f) ls) g.1 (record {
        long = omega (arith, n);
        bytes = omega (arith, p);
        all = every_front (line_ok f) (take i ls) (drop i ls) (ap (every (line_ok f)) a ∙ o);
      })

  before_strike : (i : ℕ) → strike_back i ls ≡ Some before → Before (line_ok f) ls before
  unfolding strike_back line_form
  before_strike i h =
      let y : Line = marked 0 (line_at ls i) in
      let g = given (ltb i (length ls) && not (stands (line_at ls i))) (set ls i y) before h in
      let l : i < length ls = ltb-true i (length ls) (both (ltb i (length ls)) _ g.0).0 in
      let n : length (set ls i y) ≡ length ls = length-set ls i y in
      let p : packed line_form (set ls i y) ≡ packed line_form ls = packed-set line_form ls i y no_line refl in
      subst (Before (line_ok f) ls) g.1 (record {
        long = omega (arith, n);
        bytes = omega (arith, ap length p);
        all = every_set (line_ok f) ls i y o (marked_ok f 0 (line_at ls i) (omega arith) (every_at (line_ok f) ls i no_line o l));
      })

  before_edit : (e : Edit) → take_back e ls ≡ Some before → Before (line_ok f) ls before
  unfolding take_back
  before_edit e h = go (eqb e.what add) h
    where
      go : (t : Bool) → cond t (add_back e.line ls) (strike_back e.line ls) ≡ Some before → Before (line_ok f) ls before
      go true q = before_add e.line q
      go false q = before_strike e.line q

-- ---- a book
module _ (b : Buffers) (w : Book) (ls : List Line) (es : List Edit) (v : Viewable b (book_with w ls es)) where
  pub journal-sane : journal_fits es ls ≡ true
  unfolding sane
  journal-sane = (both (kind_good (book_with w ls es)) _ (both (nodes_good w.nodes) _ v.sane).1).1

  module _ (k : eqb w.kind rust ≡ false) where
    kind-again : (ls' : List Line) (es' : List Edit) → kind_good (book_with w ls' es') ≡ kind_good (book_with w ls es)
    unfolding kind_good
    kind-again ls' es' = rw k

    sane-again : (ls' : List Line) (es' : List Edit) → journal_fits es' ls' ≡ true → sane (book_with w ls' es') ≡ true
    unfolding sane
    sane-again ls' es' j =
        let n = both (nodes_good w.nodes) _ v.sane in
        let g = both (kind_good (book_with w ls es)) _ n.1 in
        rw (n.0, kind-again ls' es', g.0) j

    -- ---- with an edit more
    more_edits : (e : Edit) → edit_room b es ≡ true → (edit_width * length (es ++ e ∷ []) ≤ length b.journal) × (length (es ++ e ∷ []) ≤ edit_limit)
    unfolding edit_room
    more_edits e r =
        let a = both (ltb (length es) edit_limit) _ r in
        let n : length (es ++ e ∷ []) ≡ length es + 1 = length-append es (e ∷ []) in
        (omega (arith, leb-true (edit_width * (length es + 1)) (length b.journal) a.1), omega (arith, ltb-true (length es) edit_limit a.0))

    edits_more : (e : Edit) → edit_ok e ≡ true → every edit_ok (es ++ e ∷ []) ≡ true
    unfolding every
    edits_more e o = every_append edit_ok es (e ∷ []) v.fits.edits_ok (rw o)

    pub viewable-line : (x : Line) → line_ok (book_frame w) x ≡ true → line_room b ls x.bytes ≡ true → edit_room b es ≡ true
        → take_back (record { what = add; line = length ls }) (ls ++ x ∷ []) ≡ Some ls → Viewable b (with_line (book_with w ls es) x)
    viewable-line x o r q z =
        let e : Edit = record { what = add; line = length ls } in
        record {
          fits = fits_line b (book_with w ls es) v.fits x o r q;
          sane = sane-again (ls ++ x ∷ []) (es ++ e ∷ []) (journal_last es e (ls ++ x ∷ []) ls z journal-sane);
        }

    pub viewable-strike : (i : ℕ) (e : Edit) → i < length ls → edit_ok e ≡ true → edit_room b es ≡ true
        → take_back e (set ls i (marked 1 (line_at ls i))) ≡ Some ls → Viewable b (book_with w (set ls i (marked 1 (line_at ls i))) (es ++ e ∷ []))
    unfolding line_form
    viewable-strike i e h p q z =
        let y : Line = marked 1 (line_at ls i) in
        let m = more_edits e q in
        let l : length (set ls i y) ≡ length ls = length-set ls i y in
        let c : packed line_form (set ls i y) ≡ packed line_form ls = packed-set line_form ls i y no_line refl in
        let ok : Line → Bool = line_ok (book_frame w) in
        let o : ok y ≡ true = marked_ok (book_frame w) 1 (line_at ls i) (omega arith) (every_at ok ls i no_line v.fits.lines_ok h) in
        record {
          fits = record {
            node_room = v.fits.node_room;
            name_room = v.fits.name_room;
            line_room = rw l v.fits.line_room;
            pool_room = rw c v.fits.pool_room;
            edit_room = m.0;
            few_nodes = v.fits.few_nodes;
            few_lines = rw l v.fits.few_lines;
            few_bytes = rw c v.fits.few_bytes;
            few_edits = m.1;
            lines_ok = every_set ok ls i y v.fits.lines_ok o;
            edits_ok = edits_more e p;
          };
          sane = sane-again (set ls i y) (es ++ e ∷ []) (journal_last es e (set ls i y) ls z journal-sane);
        }

    -- ---- with those lines alone that stand, and no edit
    pub viewable-standing : Viewable b (book_with w (standing ls) [])
    unfolding every journal_fits all_back
    viewable-standing = record {
      fits = record {
        node_room = v.fits.node_room;
        name_room = v.fits.name_room;
        line_room = omega (arith, standing-length ls, v.fits.line_room);
        pool_room = omega (arith, standing-bytes ls, v.fits.pool_room);
        edit_room = omega arith;
        few_nodes = v.fits.few_nodes;
        few_lines = omega (arith, standing-length ls, v.fits.few_lines);
        few_bytes = omega (arith, standing-bytes ls, v.fits.few_bytes);
        few_edits = omega arith;
        lines_ok = standing-every (line_ok (book_frame w)) ls v.fits.lines_ok;
        edits_ok = refl;
      };
      sane = sane-again (standing ls) [] (standing-stand ls);
    }

-- ---- with the latest edit taken back
module _ (b : Buffers) (w : Book) (k : eqb w.kind rust ≡ false) (ls before : List Line) (es : List Edit) (e : Edit)
    (v : Viewable b (book_with w ls (es ++ e ∷ []))) where
  pub viewable_back : take_back e ls ≡ Some before → journal_fits es before ≡ true → Viewable b (book_with w before es)
  viewable_back h j =
      let n : length (es ++ e ∷ []) ≡ length es + 1 = length-append es (e ∷ []) in
      let c = before_edit (book_frame w) ls before v.fits.lines_ok e h in
      record {
        fits = record {
          node_room = v.fits.node_room;
          name_room = v.fits.name_room;
          line_room = omega (arith, c.long, v.fits.line_room);
          pool_room = omega (arith, c.bytes, v.fits.pool_room);
          edit_room = omega (arith, n, v.fits.edit_room);
          few_nodes = v.fits.few_nodes;
          few_lines = omega (arith, c.long, v.fits.few_lines);
          few_bytes = omega (arith, c.bytes, v.fits.few_bytes);
          few_edits = omega (arith, n, v.fits.few_edits);
          lines_ok = c.all;
          edits_ok = every_front edit_ok es (e ∷ []) v.fits.edits_ok;
        };
        sane = sane-again b w ls (es ++ e ∷ []) v k before es j;
      }
