-- The answers to the symbols' lines, one at a turn of `render_symbols`: what a line answers, how long it is, and how it is put behind those before it.
-- Assumes nothing.
use Prim.Native.Nat.{ℕ, ◌+◌, ◌*◌, ◌-◌, ◌<◌, ◌≤◌}
use mathlib.Core.Path.{◌≡◌, refl, sym, ap, ◌∙◌}
use mathlib.Core.List.{List, [], ◌++◌, append_assoc, append-nil}
use native.Mathlib.Omega.{arith}
use lib.ListN.{length, take, drop, length-append, length-drop, length-take, drop_of_length-le}
use lib.Seq.{take_all}
use Rattle.numbers.specs.Signs.{line_feed}
use Rattle.lists.specs.Front.{front}
use Rattle.std.specs.Prelude.{Option, Some, None}
use Rattle.linker_script.specs.Finding.{first_from, is}
use Rattle.linker_script.proofs.Searches.{First, first_within}
use Rattle.book.specs.Books.{Book}
use Rattle.ranking.specs.Matching.{name_of}
use Rattle.lookups.specs.Lookups.{locality_asked, version_asked}
use Rattle.input.specs.Splitting.{at_sign, lines_in, part_before, name_part, wanted_part}
use Rattle.input.proofs.Cuts.{lines_to_end, lines_to_feed}
use Rattle.printing_symbols.specs.Lines.{asked_line, symbol_answered, symbol_line}
use Rattle.printing_listing.specs.SymbolLines.{answers}
use Rattle.printing.specs.Printing.{Begins, Puts}
use Rattle.printing.proofs.Pieces.{puts-both, puts-long, puts-nothing}
use Rattle.printing_symbols.proofs.Fields.{few-fields}

-- ---- up to the first line feed, and where there is none
module _ (w : Option Book) where
  -- the answer to a line, and the answers behind it
  pub line_answered : (s : List ℕ) (at p : ℕ) → first_from (is line_feed) s at ≡ Some p
      → answers w (lines_in [] (drop at s)) ≡ symbol_answered w (take (p - at) (drop at s)) ++ answers w (lines_in [] (drop (p + 1) s))
  unfolding answers
  line_answered s at p e = rw (lines_to_feed s at p e)

  pub last_answered : (s : List ℕ) (at : ℕ) → at < length s → first_from (is line_feed) s at ≡ None
      → answers w (lines_in [] (drop at s)) ≡ symbol_answered w (drop at s)
  unfolding answers
  last_answered s at h e = rw (lines_to_end s at h e, append-nil)

  -- ---- an answer has 14 bytes more than its line at most
  name_few : (t : List ℕ) (f : Option ℕ) → length (part_before t f) ≤ length t
  name_few t (Some p) = omega (arith, length-take p t)
  name_few t None = omega arith

  asked_few : (name : List ℕ) (wanted : Option (List ℕ)) → length (asked_line w name wanted) ≤ length name + 14
  unfolding asked_line symbol_line
  asked_few name wanted =
      let f = few-fields (version_asked w (name_of name name) wanted) (locality_asked w (name_of name name)) in
      simp length-append (omega arith)

  pub answer_few : (t : List ℕ) → length (symbol_answered w t) ≤ length t + 14
  unfolding symbol_answered name_part
  answer_few t = omega (arith, name_few t (first_from (is at_sign) t 0), asked_few (part_before t (first_from (is at_sign) t 0)) (wanted_part t))

-- ---- `put_answer`: a line that is rendered into the part of a buffer from a place on
module _ (w : Option Book) (line d : List ℕ) (at : ℕ) (l : List ℕ) (n : ℕ) (room : at + length line + 48 ≤ length d)
    (p : Begins (take (length d - at) (drop at d)) (symbol_answered w line) l n) where
  part : take (length d - at) (drop at d) ≡ drop at d
  part = take_all (length d - at) (drop at d) (omega (arith, length-drop at d))

  lists : l ≡ front (symbol_answered w line) (drop at d)
  lists = p.1 ∙ rw part

  pub answer_within : at + n ≤ length d
  answer_within = omega (arith, p.0, answer_few w line)

  pub answer_put : Puts d at (symbol_answered w line) (take at d ++ (l ++ drop (length d - at) (drop at d))) (at + n)
  answer_put =
      let k : length (drop at d) ≤ length d - at = omega (arith, length-drop at d) in
      let e : drop (length d - at) (drop at d) ≡ [] = drop_of_length-le (drop at d) k in
      (ap (λ (k : ℕ). at + k) p.0, rw (e, append-nil, lists))

-- ---- the loop of `render_symbols`: the answers up to the place `at` stand, and those from there on are left
pub record Answered (w : Option Book) (s d : List ℕ) (from : ℕ) (l : List ℕ) (at end : ℕ) : Type 0 where
  pub piece : List ℕ
  pub whole : answers w (lines_in [] s) ≡ piece ++ answers w (lines_in [] (drop at s))
  pub within : at ≤ length s
  pub few : end ≤ from + 15 * at
  pub long : length l ≡ length d
  pub put : Puts d from piece l end

pub answers_start : {w : Option Book} {s d : List ℕ} {from : ℕ} → Answered w s d from d 0 from
answers_start {d = d} {from} =
    record { piece = []; whole = refl; within = omega arith; few = omega arith; long = refl; put = puts-nothing d from }

module _ {w : Option Book} {s d : List ℕ} {from : ℕ} {l : List ℕ} {at end : ℕ} (inv : Answered w s d from l at end) where
  pub answers_end : length s ≤ at → Puts d from (answers w (lines_in [] s)) l end
  unfolding answers lines_in
  answers_end h =
      let e : answers w (lines_in [] s) ≡ inv.piece = inv.whole ∙ rw (drop_of_length-le s h, append-nil) in
      rw e inv.put

  -- the line feed behind the next line
  module _ {x : Option ℕ} (e : x ≡ first_from (is line_feed) s at) {p : ℕ} (f : x ≡ Some p) where
    line_found : First (is line_feed) s at p
    line_found = first_within (sym e ∙ f)

    pub line_starts : at ≤ p
    line_starts = line_found.onward

    pub line_ends : p ≤ length s
    line_ends = omega (arith, line_found.within)

    pub next_within : p + 1 ≤ length s
    next_within = omega (arith, line_found.within)

    pub next_less : length s - (p + 1) < length s - at
    next_less = omega (arith, line_found.within, line_found.onward)

    line_long : length (take (p - at) (drop at s)) ≤ p - at
    line_long = omega (arith, length-take (p - at) (drop at s))

  module _ (h : at < length s) (room : 0 < length s → from + 48 + 15 * length s ≤ length d) where
    ample : from + 48 + 15 * length s ≤ length d
    ample = room (omega arith)

    -- a last line without its line feed
    pub last_room : end + length (take (length s - at) (drop at s)) + 48 ≤ length l
    last_room = omega (arith, ample, inv.few, inv.long, length-take (length s - at) (drop at s), length-drop at s)

    pub last_put : {x : Option ℕ} → x ≡ first_from (is line_feed) s at → x ≡ None → {m : List ℕ} {r : ℕ}
        → Puts l end (symbol_answered w (take (length s - at) (drop at s))) m r → Puts d from (answers w (lines_in [] s)) m r
    last_put e f p =
        let t : take (length s - at) (drop at s) ≡ drop at s = take_all (length s - at) (drop at s) (omega (arith, length-drop at s)) in
        let a : answers w (lines_in [] s) ≡ inv.piece ++ symbol_answered w (drop at s) =
        inv.whole ∙ rw (last_answered w s at h (sym e ∙ f)) in
        rw a
        (puts-both d from inv.piece (symbol_answered w (drop at s))
        (omega (arith, ample, inv.put.0, inv.few, answer_few w (drop at s), length-drop at s))
        inv.put (rw t at p))

  -- the next line, up to its line feed
  module _ (room : 0 < length s → from + 48 + 15 * length s ≤ length d) {x : Option ℕ} (e : x ≡ first_from (is line_feed) s at) {p : ℕ} (f : x ≡ Some p) where
    pub line_room : end + length (take (p - at) (drop at s)) + 48 ≤ length l
    line_room = omega (arith, room (omega (arith, next_within e f)), inv.few, inv.long, line_long e f, (line_found e f).within, (line_found e f).onward)

    pub line_put : {m : List ℕ} {r : ℕ} → Puts l end (symbol_answered w (take (p - at) (drop at s))) m r → Answered w s d from m (p + 1) r
    line_put q =
        let t = symbol_answered w (take (p - at) (drop at s)) in
        let few = answer_few w (take (p - at) (drop at s)) in
        record {
          piece = inv.piece ++ t;
          whole = inv.whole ∙ rw (line_answered w s at p (sym e ∙ f)) (sym (append_assoc inv.piece t (answers w (lines_in [] (drop (p + 1) s)))));
          within = omega (arith, (line_found e f).within);
          few = omega (arith, few, line_long e f, q.0, inv.few, (line_found e f).onward);
          long = puts-long l end t (omega (arith, few, line_room)) q ∙ inv.long;
          put = puts-both d from inv.piece t (omega (arith, few, line_room, inv.put.0, inv.long)) inv.put q;
        }
