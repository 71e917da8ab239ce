-- What `append` of src/adding.rt answers and leaves in the buffers: a token is refused, or has no row, or no edit, and then nothing changes; or the line is
-- there with its edit. The premises are what the code learned. Assumes nothing.
use Prim.Native.Nat.{ℕ, ◌+◌, ◌*◌, ◌≤◌}
use mathlib.Core.Path.{◌≡◌, refl, sym, ap, ◌∙◌}
use mathlib.Core.List.{List, [], ◌∷◌, ◌++◌}
use mathlib.Core.Bool.{Bool, true, false, ◌&&◌}
use native.Mathlib.Omega.{arith}
use borrow.Author.Tests.{lt-leb}
use lib.ListN.{length, length-append}
use lib.Seq.{paste}
use Rattle.numbers.specs.Limits.{pool_limit}
use Rattle.numbers.specs.Refusals.{no_room}
use Rattle.packing.specs.Tables.{packed}
use Rattle.packing.proofs.Packings.{bytes-laid, bytes_more, row_laid}
use Rattle.numbers.specs.declared.Edition.{Edition}
use Rattle.classes.specs.declared.Class.{Class}
use Rattle.storing.specs.declared.Stored.{Stored}
use Rattle.numbers.specs.declared.Refusal.{Refusal}
use Rattle.numbers.specs.declared.Refusal.TheVariants as no
use Rattle.numbers.specs.Saying.{number}
use Rattle.storing.specs.Answers.{keep_answer}
use Rattle.classes.specs.Classes.{class_number}
use Rattle.storing.specs.Keeping.{Keep, kept, refused, keep}
use Rattle.book.specs.declared.Counts.{Counts}
use Rattle.book.specs.declared.Frame.{Frame}
use Rattle.book.specs.Books.{Book, Line, add, edition_of, new_line}
use Rattle.book.specs.Layout.{
  Buffers,
  code_of,
  counts_of,
  counts_with,
  edit_form,
  edit_width,
  five,
  frame_of,
  laid_out,
  line_form,
  line_width,
  row_of_line,
  standing_code,
}
use Rattle.book.specs.View.{book_of}
use Rattle.book.proofs.Forms.{edit_laws, line_laws}
use Rattle.book.proofs.Views.{Layout}
use Rattle.book_rooms.specs.Rooms.{Put, edit_row, fits_row, line_room, pool_room}
use Rattle.book_rooms.proofs.LineRooms.{edit_room_is, is_room, no_pool, no_row}
use Rattle.book_rooms.proofs.Putting.{RefusedAs, room-both, room-length, room_limit, was_kept, was_refused}
use Rattle.book_rooms.proofs.Rows.{edit_within, row_number, row_within}
use Rattle.std.specs.Prelude.{Result, Ok, Err}
use Rattle.trial.specs.Changes.{Change, Makes, after, edited, no as says_no, to}
use Rattle.trial.specs.Trial.{append, append_kept, unplaced, with_line}

-- ---- what refuses a token that has no row: r is what `store_token` answers with no room at all
module _ (x : Edition) (frame : Frame) (t : List ℕ) (y : x ≡ edition_of frame) (r : Result Stored Refusal) (u : r ≡ keep_answer (keep x t) 0) where
  told : (K : Keep) (i : Refusal) → r ≡ keep_answer K 0 → r ≡ Err i → number i ≡ unplaced K
  unfolding keep_answer
  told (refused n) i v z = let w : i ≡ n = cc in ap number w
  told (kept k []) i v z = let a : ◌≡◌ {A = ℕ} 0 1 = cc in absurd (omega arith)
  told (kept k (b ∷ bs)) i v z = let w : r ≡ Err no.NoRoom = v ∙ rw (lt-leb (length (b ∷ bs)) 0 (omega arith)) in let q : i ≡ no.NoRoom = cc in ap number q

  pub unplaced-refused : (i : Refusal) → r ≡ Err i → (v : ℕ) → v ≡ number i → v ≡ unplaced (keep (edition_of frame) t)
  unplaced-refused i z v j = rw (← y) (j ∙ told (keep x t) i u z)

  stored-told : (K : Keep) (s : Stored) → r ≡ keep_answer K 0 → r ≡ Ok s → no_room ≡ unplaced K
  unfolding keep_answer
  stored-told (refused n) s v z = let a : ◌≡◌ {A = ℕ} 0 1 = cc in absurd (omega arith)
  stored-told (kept j bs) s v z = refl

  pub unplaced-stored : (s : Stored) → r ≡ Ok s → no_room ≡ unplaced (keep (edition_of frame) t)
  unplaced-stored s z = rw (← y) (stored-told (keep x t) s u z)

and_false : (x : Bool) → (x && false) ≡ false
and_false true = refl
and_false false = refl

module _ {c : Counts} {b : Buffers} (layout : Layout c b (book_of c b)) where
  abbrev book : Book
  book = book_of c b

  -- what `put_token` asks
  pub pool-asked : c.pool ≤ pool_room b.pool
  pool-asked = room-both b.pool c.pool layout.lines.byteroom layout.limits.pool

  -- the bytes that it put end within the pool's limit
  pub append-ends : (K : Keep) (s : Result Stored Refusal) (q' : List ℕ) → Put K b.pool c.pool s q' → (v : Stored) → s ≡ Ok v → c.pool + v.size ≤ pool_limit
  append-ends K s q' u v z =
      let w = was_kept K b.pool c.pool s q' v pool-asked u z in
      omega (arith, w.size, w.room, room_limit b.pool)

  module _ (node section language : ℕ) (t : List ℕ) where
    abbrev change : Keep → Change
    change K = append_kept b book node section language K

    abbrev Appends : Result Counts ℕ → Buffers → Type 0
    Appends = Makes c b (λ b w. append b w node section language t)

    append_is : append b book node section language t ≡ change (keep (edition_of (frame_of c)) t)
    unfolding append
    append_is = refl

    made_no : (K : Keep) (i : ℕ) → K ≡ keep (edition_of (frame_of c)) t → change K ≡ says_no i → Appends (Err i) b
    unfolding edited after
    made_no K i k e = rw (append_is, ← k, e) (refl, refl)

    -- ---- no row is left, or no edit
    rowless : (K : Keep) → fits_row b.lines c.lines ≡ false → change K ≡ says_no (unplaced K)
    unfolding append_kept
    rowless (kept k bs) f = rw (no_row b book.lines c.lines c.pool layout.lines.count layout.lines.total bs f)
    rowless (refused i) f = refl

    editless : (K : Keep) → edit_row b.journal c.edits ≡ false → change K ≡ says_no (unplaced K)
    unfolding append_kept
    editless (kept k bs) f = rw (edit_room_is b book.edits c.edits layout.edits.count, f, and_false (line_room b book.lines bs))
    editless (refused i) f = refl

    module _ (i : ℕ) (e : i ≡ unplaced (keep (edition_of (frame_of c)) t)) where
      pub append_rowless : fits_row b.lines c.lines ≡ false → Appends (Err i) b
      append_rowless f = made_no (keep (edition_of (frame_of c)) t) i refl (rowless (keep (edition_of (frame_of c)) t) f ∙ ap says_no (sym e))

      pub append_editless : edit_row b.journal c.edits ≡ false → Appends (Err i) b
      append_editless f = made_no (keep (edition_of (frame_of c)) t) i refl (editless (keep (edition_of (frame_of c)) t) f ∙ ap says_no (sym e))

    -- ---- s is what `put_token` answers, with the edition x that `edition_of` answered, and q' the pool behind it
    poolless : (K : Keep) (i : Refusal) → RefusedAs K b.pool c.pool i → change K ≡ says_no (number i)
    unfolding append_kept
    poolless (kept k bs) i v = rw (no_pool b book.lines c.lines c.pool layout.lines.count layout.lines.total bs v.0, v.1)
    poolless (refused y) i v = ap (λ (n : Refusal). says_no (number n)) (sym v)

    module _ (x : Edition) (y : x ≡ edition_of (frame_of c)) (s : Result Stored Refusal) (q' : List ℕ) (u : Put (keep x t) b.pool c.pool s q') where
      pub append-refused : (i : Refusal) → s ≡ Err i → (v : ℕ) → v ≡ number i → Appends (Err v) (five b.nodes b.names b.lines q' b.journal)
      append-refused i z v j =
          let w = was_refused (keep x t) b.pool c.pool s q' i pool-asked u z in
          rw (j, w.1) (made_no (keep x t) (number i) (ap (λ (e : Edition). keep e t) y) (poolless (keep x t) i w.0))

      -- ---- there is a row for it, and one for its edit
      module _ (f : fits_row b.lines c.lines ≡ true) (g : edit_row b.journal c.edits ≡ true) (k : Class) (bs : List ℕ) where
        abbrev line : Line
        line = new_line node section language (class_number k) bs

        stands : c.pool + length bs ≤ pool_room b.pool → change (kept k bs) ≡ to (with_line book line)
        unfolding append_kept
        stands h =
            rw (
              is_room b book.lines c.lines c.pool layout.lines.count layout.lines.total bs
                  (record { number = row_number b.lines c.lines f; row = row_within b.lines c.lines f; pool = h }),
              edit_room_is b book.edits c.edits layout.edits.count,
              g,
            )

        counts_more : (i : ℕ) → i ≡ length bs
            → counts_with c (c.lines + 1) (c.pool + i) (c.edits + 1) ≡ counts_of (with_line book line)
        unfolding counts_of line_form
        counts_more i z =
            let a : c.lines + 1 ≡ length (book.lines ++ line ∷ []) = omega (arith, layout.lines.count, length-append book.lines (line ∷ [])) in
            let d : c.pool + length bs ≡ length (packed line_form (book.lines ++ line ∷ [])) = bytes_more layout.lines line in
            let e : c.edits + 1 ≡ length (book.edits ++ record { what = add; line = length book.lines } ∷ [])
            = omega (arith, layout.edits.count, length-append book.edits (record { what = add; line = length book.lines } ∷ [])) in
            rw z (λ v. record {
              kind = layout.kind v;
              nodes = layout.nodes.count v;
              names = layout.nodes.total v;
              lines = a v;
              pool = d v;
              edits = e v;
            })

        buffers_more : (i class code : ℕ) (l' j' : List ℕ) → c.pool + length bs ≤ pool_room b.pool → i ≡ length bs → class ≡ class_number k
            → code ≡ standing_code class section language
            → l' ≡ paste b.lines (line_width * c.lines) (row_of_line node code c.pool i 0) line_width
            → q' ≡ paste b.pool c.pool bs (length bs)
            → j' ≡ paste b.journal (edit_width * c.edits) (add ∷ c.lines ∷ []) edit_width
            → five b.nodes b.names l' q' j' ≡ laid_out b (with_line book line)
        unfolding laid_out line_form edit_form
        buffers_more i class code l' j' h z w u a p d =
            let e : code_of line ≡ code = omega arith in
            let lines-laid = row_laid (line_laws (frame_of c)) layout.lines line {l' = l'}
            (omega (arith, row_within b.lines c.lines f)) (rw (e, ← z) a) in
            let pool-laid = bytes-laid layout.lines line (omega (arith, room-length b.pool)) p in
            let journal-laid = row_laid edit_laws layout.edits (record { what = add; line = length book.lines }) {l' = j'}
            (omega (arith, edit_within b.journal c.edits g)) (rw (← layout.lines.count) d) in
            λ v. record { nodes = layout.nodes.lined v; names = layout.nodes.pooled v; lines = lines-laid v; pool = pool-laid v; journal = journal-laid v }

      pub append_made : (f : fits_row b.lines c.lines ≡ true) (g : edit_row b.journal c.edits ≡ true)
          → (v : Stored) (size class code : ℕ) (l' j' : List ℕ) → s ≡ Ok v → size ≡ v.size → class ≡ class_number v.class → code ≡ standing_code class section language
          → l' ≡ paste b.lines (line_width * c.lines) (row_of_line node code c.pool size 0) line_width
          → j' ≡ paste b.journal (edit_width * c.edits) (add ∷ c.lines ∷ []) edit_width → (d : Counts)
          → d ≡ counts_with c (c.lines + 1) (c.pool + size) (c.edits + 1) → Appends (Ok d) (five b.nodes b.names l' q' j')
      unfolding edited after
      append_made f g v size class code l' j' z m w e a p d h =
          let o = was_kept (keep x t) b.pool c.pool s q' v pool-asked u z in
          let long : size ≡ length o.bytes = m ∙ o.size in
          let made : append b book node section language t ≡ to (with_line book (line f g v.class o.bytes))
          = append_is ∙ ap (λ (e : Edition). change (keep e t)) (sym y) ∙ ap change o.keeps ∙ stands f g v.class o.bytes o.room in
          rw made (
            ap Ok (h ∙ counts_more f g v.class o.bytes size long),
            buffers_more f g v.class o.bytes size class code l' j' o.room long w e a o.put p,
          )
