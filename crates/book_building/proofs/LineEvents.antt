-- What a line makes of a book in buffers: it is refused as its token is, or for want of room, or it stands there. The premises are what take_line of
-- src/lib.rt learned. Assumes nothing.
use Prim.Native.Nat.{ℕ, ◌+◌, ◌-◌, ◌*◌, ◌≤◌, ◌<◌}
use mathlib.Core.Path.{◌≡◌, sym, ap, ◌∙◌}
use mathlib.Core.List.{List, [], ◌∷◌, ◌++◌}
use mathlib.Core.Bool.{Bool, true, false}
use native.Mathlib.Omega.{arith}
use lib.ListN.{length}
use lib.Seq.{paste}
use Rattle.numbers.specs.Limits.{pool_limit, script_limit}
use Rattle.numbers.specs.Marks.{cxx, local}
use Rattle.numbers.specs.Refusals.{no_room}
use Rattle.packing.proofs.Packings.{Packs, put_thing}
use Rattle.numbers.specs.declared.Edition.{Edition}
use Rattle.classes.specs.declared.Class.{Class}
use Rattle.storing.specs.declared.Stored.{Stored}
use Rattle.std.specs.Prelude.{Result, Ok, Err}
use Rattle.numbers.specs.declared.Refusal.{Refusal}
use Rattle.numbers.specs.Saying.{number}
use Rattle.classes.specs.Classes.{class_number}
use Rattle.storing.specs.Keeping.{Keep, kept, refused, keep}
use Rattle.book.specs.Books.{Line, edition_of, new_line, offset_at, with_offset}
use Rattle.book.specs.Layout.{code_of, five, frame_of, line_form, line_width, row_of_line, standing_code}
use Rattle.book.specs.Sanity.{line_ok}
use Rattle.book.proofs.Forms.{line_laws}
use Rattle.book_rooms.specs.Rooms.{Put, fits_row, line_room, pool_room}
use Rattle.book_rooms.proofs.LineRooms.{LineRoom, is_room, no_pool, no_row}
use Rattle.book_rooms.proofs.Putting.{Kept, RefusedAs, room-length, room_limit, was_kept, was_refused}
use Rattle.book_rooms.proofs.Rows.{row_number, row_within}
use Rattle.book_building.specs.declared.Progress.{Progress}
use Rattle.book_building.specs.declared.Taking.TheVariants.{On, No}
use Rattle.book_building.specs.Building.{no as says_no, mixed_behind, starred_behind, take_kept}
use Rattle.book_building.specs.State.{TookLine, building, built, counts_so_far}
use Rattle.book_building.proofs.Kept.{kept_line}
use Rattle.book_building.proofs.States.{State, building_is, is_state, lines_of, nodes_of, state_is}

-- one line more, with k bytes, and what the globals and the locals then have
abbrev pub line_more : Progress → ℕ → Bool → Bool → Progress
line_more g k mixed starred = record {
  nodes = g.nodes;
  names = g.names;
  lines = g.lines + 1;
  pool = g.pool + k;
  inside = g.inside;
  mixed = mixed;
  starred = starred;
}

module _ (g : Progress) (p section language : ℕ) (t l q : List ℕ) where
  no_line : (k : Class) (bs n m : List ℕ) → line_room (five n m l q []) (lines_of g n m l q) bs ≡ false
      → take_kept (five n m l q []) (building g (five n m l q [])) p section language (kept k bs) ≡ says_no no_room p
  unfolding take_kept
  no_line k bs n m h = rw (building_is g n m l q, h)

  refuses : (K : Keep) (x : Refusal) (n m : List ℕ) → built g (five n m l q []) ≡ true → RefusedAs K q g.pool x
      → take_kept (five n m l q []) (building g (five n m l q [])) p section language K ≡ says_no (number x) p
  unfolding take_kept
  refuses (refused y) x n m e v = ap (λ (k : Refusal). says_no (number k) p) (sym v)
  refuses (kept k bs) x n m e v =
      let s = (is_state g n m l q e).lines in
      no_line k bs n m (no_pool (five n m l q []) (lines_of g n m l q) g.lines g.pool s.count s.total bs v.0)
      ∙ ap (λ (k : Refusal). says_no (number k) p) (sym v.1)

  -- ---- r is what `put_token` answers, with the edition x that `edition_of` answered, and q' the pool behind it
  module _ (x : Edition) (y : x ≡ edition_of (frame_of (counts_so_far g))) (r : Result Stored Refusal) (q' : List ℕ) (a : g.pool ≤ pool_room q)
      (u : Put (keep x t) q g.pool r q') where
    puts : Put (keep (edition_of (frame_of (counts_so_far g))) t) q g.pool r q'
    puts = rw (← y) u

    -- the token is refused, or has no room in the pool
    pub line_refused : (i : Refusal) (v : ℕ) (l' q'' : List ℕ) → r ≡ Err i → v ≡ number i → TookLine g p section language t l q (No v p) l' q''
    line_refused i v l' q'' z k n m e =
        rw k (refuses (keep (edition_of (frame_of (counts_so_far g))) t) i n m e (was_refused (keep (edition_of (frame_of (counts_so_far g))) t) q g.pool r q' i a puts z).0)

    -- what is kept of the token, where it is put there
    keeps : (s : Stored) → r ≡ Ok s → Kept (keep (edition_of (frame_of (counts_so_far g))) t) q g.pool q' s.class s.size
    keeps s z = was_kept (keep (edition_of (frame_of (counts_so_far g))) t) q g.pool r q' s a puts z

    -- its bytes end within the pool's limit
    pub line-ends : (s : Stored) → r ≡ Ok s → g.pool + s.size ≤ pool_limit
    line-ends s z =
        let w = keeps s z in
        omega (arith, w.size, w.room, room_limit q)

    -- no row is left for it
    pub line_rowless : (s : Stored) (l' q'' : List ℕ) → r ≡ Ok s → fits_row l g.lines ≡ false
        → TookLine g p section language t l q (No no_room p) l' q''
    line_rowless s l' q'' z f n m e =
        let w = keeps s z in
        let j = (is_state g n m l q e).lines in
        rw w.keeps (no_line s.class w.bytes n m (no_row (five n m l q []) (lines_of g n m l q) g.lines g.pool j.count j.total w.bytes f))

    -- it is there
    stands : (k : Class) (i c code : ℕ) (bs l' : List ℕ) → keep (edition_of (frame_of (counts_so_far g))) t ≡ kept k bs → i ≡ length bs → LineRoom g.lines g.pool l q (length bs)
        → q' ≡ paste q g.pool bs (length bs) → section ≤ local → language ≤ cxx → p < script_limit → c ≡ class_number k
        → code ≡ standing_code c section language
        → l' ≡ paste l (line_width * g.lines) (row_of_line (g.nodes - 1) code g.pool i (offset_at p)) line_width
        → TookLine g p section language t l q (On (line_more g i (mixed_behind g.mixed section c) (starred_behind g.starred g.inside section c))) l' q'
    unfolding take_kept line_form
    stands k i c code bs l' keeps size room put f b v y o d n m e =
        let s = is_state g n m l q e in
        let x : Line = with_offset (offset_at p) (new_line (g.nodes - 1) section language (class_number k) bs) in
        let h : code_of x ≡ code = omega arith in
        let u : Packs line_form (line_ok (frame_of (counts_so_far g))) (g.lines + 1) (g.pool + length bs) l' q' (lines_of g n m l q ++ (x ∷ []))
        = put_thing (line_laws (frame_of (counts_so_far g))) s.lines x
        (kept_line g.nodes t k bs keeps (g.nodes - 1) section language (offset_at p) (omega (arith, s.few.some)) f b (omega arith))
        (omega (arith, room.row)) (omega (arith, room.pool, room-length q)) (rw (h, ← size) d) put in
        let r : State (line_more g i (mixed_behind g.mixed section c) (starred_behind g.starred g.inside section c)) n m l' q' (nodes_of g n m l q) (lines_of g n m l q ++ (x ∷ [])) = record {
          few = record {
            some = s.few.some;
            names = s.few.names;
            nodes = s.few.nodes;
            lines = omega (arith, room.number);
            pool = omega (arith, size, room.pool, room_limit q);
          };
          nodes = s.nodes;
          lines = rw size u;
        } in
        let w = state_is (line_more g i (mixed_behind g.mixed section c) (starred_behind g.starred g.inside section c)) n m l' q' (nodes_of g n m l q) (lines_of g n m l q ++ (x ∷ [])) r in (
          rw (keeps, building_is g n m l q, is_room (five n m l q []) (lines_of g n m l q) g.lines g.pool s.lines.count s.lines.total bs room, w.0, y, ← s.nodes.count),
          w.1,
        )

    pub line-added : (v : Stored) (c code : ℕ) (x y : Bool) (l' : List ℕ) → r ≡ Ok v → fits_row l g.lines ≡ true → section ≤ local → language ≤ cxx → p < script_limit
        → c ≡ class_number v.class → code ≡ standing_code c section language → x ≡ mixed_behind g.mixed section c → y ≡ starred_behind g.starred g.inside section c
        → l' ≡ paste l (line_width * g.lines) (row_of_line (g.nodes - 1) code g.pool v.size (offset_at p)) line_width
        → TookLine g p section language t l q (On (line_more g v.size x y)) l' q'
    line-added o' c code x y l' z f h b s e j v w d =
        let o = keeps o' z in
        let room : LineRoom g.lines g.pool l q (length o.bytes) = record { number = row_number l g.lines f; row = row_within l g.lines f; pool = o.room } in
        rw (v, w) (stands o'.class o'.size c code o.bytes l' o.keeps o.size room o.put h b s e j d)
