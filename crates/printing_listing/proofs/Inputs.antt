-- What is printed for an input: the exits of `has_room`, `script_end`, `symbols_start` and `render_listing`. Assumes nothing.
use Prim.Native.Nat.{ℕ, ◌+◌, ◌*◌, ◌-◌, ◌/◌, ◌<◌, ◌≤◌}
use mathlib.Core.Path.{◌≡◌, refl, sym, ap, ◌∙◌}
use mathlib.Core.List.{List}
use mathlib.Core.Bool.{Bool, true, false, cond, not}
use native.Mathlib.Decide.{dec_lt}
use native.Mathlib.Omega.{arith}
use borrow.Author.Tests.{leb-false, leb-true, le-leb, le-ltb, lt-leb, lt-ltb, not-false, not-true}
use lib.Dec.{leb, ltb}
use lib.ListN.{length, take, drop, length-drop, length-take, drop_of_length-le}
use lib.Seq.{length-take-le, take_all}
use Rattle.numbers.specs.Refusals.{too_long}
use Rattle.lists.specs.Front.{front}
use Rattle.std.specs.Prelude.{Option, Some, None}
use Rattle.book.specs.Layout.{Buffers}
use Rattle.book_opening.specs.Opening.{as_script, cleared, declined, left, opening}
use Rattle.input.specs.Splitting.{mark, part_before, symbols_by}
use Rattle.input.proofs.Marks.{mark-within}
use Rattle.printing.specs.Printing.{refused_line}
use Rattle.printing_listing.specs.declared.script.Listed.{Listed}
use Rattle.printing_listing.specs.Script.{Prints, printed, with_refusal}
use Rattle.printing_listing.specs.Listing.{Lists, book_left, has_room, input_opening, listed, listing, nothing_listed, out_left}

-- ---- whether there is room for an input of that length
module _ (text out : ℕ) where
  pub room_lacks : out < 48 → false ≡ leb (48 + 15 * text) out
  room_lacks h = sym (lt-leb (48 + 15 * text) out (omega arith))

  pub room_left : 48 ≤ out → leb text ((out - 48) / 15) ≡ leb (48 + 15 * text) out
  room_left h = by (leb text ((out - 48) / 15)) refl
    where
      by : (x : Bool) → leb text ((out - 48) / 15) ≡ x → x ≡ leb (48 + 15 * text) out
      by true f = sym (le-leb (48 + 15 * text) out (omega (arith, leb-true text ((out - 48) / 15) f)))
      by false f = sym (lt-leb (48 + 15 * text) out (omega (arith, leb-false text ((out - 48) / 15) f)))

-- ---- the input's parts
module _ (s : List ℕ) (x : Option ℕ) (e : x ≡ mark s) where
  pub all_script : x ≡ None → length s ≡ length (part_before s (mark s))
  all_script f = rw (← e, f)

  pub script_before : (p : ℕ) → x ≡ Some p → p ≡ length (part_before s (mark s))
  script_before p f = rw (← e, f) (sym (length-take-le p s (omega (arith, mark-within s p (sym e ∙ f)))))

module _ (end text : ℕ) where
  pub symbols_none : text - end ≤ 3 → text ≡ cond (leb text (end + 3)) text (end + 3)
  symbols_none h = rw (le-leb text (end + 3) (omega arith))

  pub symbols_some : 3 < text - end → end + 3 ≡ cond (leb text (end + 3)) text (end + 3)
  symbols_some h = rw (lt-leb text (end + 3) (omega arith))

module _ (s : List ℕ) (end : ℕ) (e : end ≡ length (part_before s (mark s))) where
  pub script-within : end ≤ length s
  script-within = go (mark s) refl e
    where
      go : (x : Option ℕ) → mark s ≡ x → end ≡ length (part_before s x) → end ≤ length s
      go None f g = omega arith
      go (Some p) f g = omega (arith, mark-within s p f, length-take p s)

  pub script-count : end ≡ length (take end s)
  script-count = sym (length-take-le end s script-within)

  pub script-part : take end s ≡ part_before s (mark s)
  script-part = go (mark s) refl e
    where
      go : (x : Option ℕ) → mark s ≡ x → end ≡ length (part_before s x) → take end s ≡ part_before s x
      go None f g = take_all end s (omega arith)
      go (Some p) f g = ap (λ (n : ℕ). take n s) (g ∙ length-take-le p s (omega (arith, mark-within s p f)))

  module _ (from : ℕ) (f : from ≡ cond (leb (length s) (end + 3)) (length s) (end + 3)) where
    symbols_at : Dec (end + 3 < length s) → (from ≤ length s) × (drop from s ≡ drop (end + 3) s)
    symbols_at (yes h) =
        let k : from ≡ end + 3 = f ∙ rw (lt-leb (length s) (end + 3) h) in
        (omega arith, ap (λ (n : ℕ). drop n s) k)
    symbols_at (no h) =
        let k : from ≡ length s = f ∙ rw (le-leb (length s) (end + 3) (omega arith)) in
        (omega arith, drop_of_length-le s {i = from} (omega arith) ∙ sym (drop_of_length-le s {i = end + 3} (omega arith)))

    pub symbols-within : from ≤ length s
    symbols-within = (symbols_at (dec_lt (end + 3) (length s))).0

    symbols_left : take (length s - from) (drop from s) ≡ drop (end + 3) s
    symbols_left = take_all (length s - from) (drop from s) (omega (arith, length-drop from s)) ∙ (symbols_at (dec_lt (end + 3) (length s))).1

    pub symbols-part : take (length s - from) (drop from s) ≡ symbols_by s (mark s)
    symbols-part = symbols_left ∙ go (mark s) refl e
      where
        go : (x : Option ℕ) → mark s ≡ x → end ≡ length (part_before s x) → drop (end + 3) s ≡ symbols_by s x
        go None i g = drop_of_length-le s {i = end + 3} (omega arith)
        go (Some p) i g = ap (λ (n : ℕ). drop (n + 3) s) (g ∙ length-take-le p s (omega (arith, mark-within s p i)))

-- ---- the exits of `render_listing`: x is whether there is room, and the code asked whether there is none
module _ (b : Buffers) (s d : List ℕ) (x : Bool) (e : x ≡ leb (48 + 15 * length s) (length d)) where
  pub not_listed : (r : Listed) → r ≡ nothing_listed → not x ≡ true → Lists b s d r d b
  unfolding listed out_left book_left has_room
  not_listed r f h = rw (← e, not-true x h) (f, refl, refl)

  module _ (h : not x ≡ false) where
    fits : leb (48 + 15 * length s) (length d) ≡ true
    fits = sym e ∙ not-false x h

    pub line_room : 48 ≤ length d
    line_room = omega (arith, leb-true (48 + 15 * length s) (length d) fits)

    pub too_long-listed : 65536 < length s → (r : Listed) (l : List ℕ) (b' : Buffers)
        → (r ≡ with_refusal (length (refused_line too_long)) (declined too_long 0)) × (l ≡ front (refused_line too_long) d) × (b' ≡ cleared b)
        → Lists b s d r l b'
    unfolding listed out_left book_left has_room input_opening listing printed left
    too_long-listed g r l b' p =
        let v : ltb 65536 (length s) ≡ true = lt-ltb 65536 (length s) g in
        (rw (fits, v) p.0, rw (fits, v) p.1, rw (fits, v) p.2)

    module _ (end : ℕ) (f : end ≡ length (part_before s (mark s))) (from : ℕ) (i : from ≡ cond (leb (length s) (end + 3)) (length s) (end + 3)) where
      pub lines-room : 0 < length (take (length s - from) (drop from s)) → 84 + 15 * length (take (length s - from) (drop from s)) ≤ length d
      lines-room k =
          omega (arith, leb-true (48 + 15 * length s) (length d) fits, ap length (symbols_left s end f from i), length-drop (end + 3) s)

      pub whole-listed : length s ≤ 65536 → (r : Listed) (l : List ℕ) (b' : Buffers)
          → Prints b (λ b. opening as_script b (take end s)) (take (length s - from) (drop from s)) d r l b' → Lists b s d r l b'
      unfolding listed out_left book_left has_room input_opening listing
      whole-listed g r l b' p =
          let v : ltb 65536 (length s) ≡ false = le-ltb 65536 (length s) g in
          let q : Prints b (λ b. opening as_script b (part_before s (mark s))) (symbols_by s (mark s)) d r l b' =
          rw (script-part s end f, symbols-part s end f from i) at p in
          (rw (fits, v) q.0, rw (fits, v) q.1, rw (fits, v) q.2)
