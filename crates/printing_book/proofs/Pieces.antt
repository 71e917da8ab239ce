-- Pieces put into a buffer one behind the other, and how much room they take; and the counts. Assumes nothing.
use Prim.Native.Nat.{ℕ, ◌+◌, ◌≤◌}
use mathlib.Core.Path.{◌≡◌, subst, ◌∙◌}
use mathlib.Core.List.{List, [], ◌∷◌, ◌++◌, append_assoc}
use native.Mathlib.Omega.{arith}
use lib.ListN.{length, length-append}
use Rattle.numbers.specs.Signs.{space}
use Rattle.lists.specs.Texts.{codes}
use Rattle.book.specs.declared.Counts.{Counts}
use Rattle.printing.specs.Printing.{Begins, Puts, decimal, spaced}
use Rattle.printing.proofs.Digits.{few-digits}
use Rattle.printing.proofs.Pieces.{begins, few-spaced, line_end, puts-both, puts-long}
use Rattle.printing_book.specs.Shown.{counts_shown, shown_room}

-- xs, m bytes at most, was put where there was room for it
pub record Placed (d : List ℕ) (at m : ℕ) (xs l : List ℕ) (r : ℕ) : Type 0 where
  pub put : Puts d at xs l r
  pub few : length xs ≤ m
  pub room : at + length xs ≤ length d
  pub long : length l ≡ length d

module _ (d : List ℕ) (at : ℕ) where
  pub placed : (m : ℕ) (xs : List ℕ) {l : List ℕ} {r : ℕ} → length xs ≤ m → at + m ≤ length d → Puts d at xs l r → Placed d at m xs l r
  placed m xs f h p = record { put = p; few = f; room = omega arith; long = puts-long d at xs (omega arith) p }

  pub number-placed : (n : ℕ) {l : List ℕ} {r : ℕ} → at + 10 ≤ length d → Puts d at (decimal n) l r → Placed d at 10 (decimal n) l r
  number-placed n h p = placed 10 (decimal n) (few-digits n) h p

  pub spaced-placed : (word : List ℕ) (n : ℕ) {l : List ℕ} {r : ℕ} → at + length word + 11 ≤ length d → Puts d at (spaced word n) l r
      → Placed d at (length word + 11) (spaced word n) l r
  spaced-placed word n h p = placed (length word + 11) (spaced word n) (few-spaced word n) (omega arith) p

  pub text-placed : (xs : List ℕ) {l : List ℕ} {r : ℕ} → at + length xs ≤ length d → Puts d at xs l r → Placed d at (length xs) xs l r
  text-placed xs h p = placed (length xs) xs (omega arith) h p

-- two pieces, the second behind the first, are one
module _ {d d₁ d₂ : List ℕ} {at m n e r : ℕ} {xs ys : List ℕ} where
  pub behind : Placed d at m xs d₁ e → Placed d₁ e n ys d₂ r → Placed d at (m + n) (xs ++ ys) d₂ r
  behind p q =
      let h : at + length xs + length ys ≤ length d = omega (arith, p.put.0, p.long, q.room) in
      record {
        put = puts-both d at xs ys h p.put q.put;
        few = omega (arith, length-append xs ys, p.few, q.few);
        room = omega (arith, length-append xs ys);
        long = q.long ∙ p.long;
      }

-- what stands, and a word and a number behind it
module _ {d l : List ℕ} {at m e : ℕ} {xs : List ℕ} (p : Placed d at m xs l e) where
  pub room_behind : (k : ℕ) → at + m + k + 11 ≤ length d → e + k + 11 ≤ length l
  room_behind k h = omega (arith, p.put.0, p.few, p.long)

  pub spaced_behind : (word : List ℕ) (n : ℕ) {l' : List ℕ} {r : ℕ} → at + m + length word + 11 ≤ length d → Puts l e (spaced word n) l' r
      → Placed d at (m + (length word + 11)) (xs ++ spaced word n) l' r
  spaced_behind word n h q = behind p (spaced-placed l e word n (room_behind (length word) h) q)

  -- the number was put under a name that the code has for it
  pub told_behind : (word : List ℕ) {k : ℕ} (n : ℕ) {l' : List ℕ} {r : ℕ} → at + m + length word + 11 ≤ length d → Puts l e (spaced word k) l' r → k ≡ n
      → Placed d at (m + (length word + 11)) (xs ++ spaced word n) l' r
  told_behind word n h q z = spaced_behind word n h (rw z at q)

-- six pieces, however they are taken together
pub six : (a b c d e f : List ℕ) → ((((a ++ b) ++ c) ++ d) ++ e) ++ f ≡ a ++ (b ++ (c ++ (d ++ (e ++ f))))
six a b c d e f = simp append_assoc

-- ---- `counts`
abbrev pub kind_word : List ℕ
kind_word = 107 ∷ 105 ∷ 110 ∷ 100 ∷ []

abbrev pub nodes_word : List ℕ
nodes_word = 110 ∷ 111 ∷ 100 ∷ 101 ∷ 115 ∷ []

abbrev pub names_word : List ℕ
names_word = 110 ∷ 97 ∷ 109 ∷ 101 ∷ 115 ∷ []

abbrev pub lines_word : List ℕ
lines_word = 108 ∷ 105 ∷ 110 ∷ 101 ∷ 115 ∷ []

abbrev pub pool_word : List ℕ
pool_word = 112 ∷ 111 ∷ 111 ∷ 108 ∷ []

abbrev pub edits_word : List ℕ
edits_word = 101 ∷ 100 ∷ 105 ∷ 116 ∷ 115 ∷ []

pub room_of : (c : Counts) (d : List ℕ) → shown_room c ≤ length d → 128 ≤ length d
unfolding shown_room
room_of c d h = omega arith

-- the counts as far as to one of them
module _ (c : Counts) where
  abbrev pub to_kind : List ℕ
  to_kind = spaced kind_word c.kind

  abbrev pub to_nodes : List ℕ
  to_nodes = to_kind ++ spaced (space ∷ nodes_word) c.nodes

  abbrev pub to_names : List ℕ
  to_names = to_nodes ++ spaced (space ∷ names_word) c.names

  abbrev pub to_lines : List ℕ
  to_lines = to_names ++ spaced (space ∷ lines_word) c.lines

  abbrev pub to_pool : List ℕ
  to_pool = to_lines ++ spaced (space ∷ pool_word) c.pool

  abbrev pub to_edits : List ℕ
  to_edits = to_pool ++ spaced (space ∷ edits_word) c.edits

-- all of them, and the line's end
module _ {d l : List ℕ} {e : ℕ} (c : Counts) (room : 128 ≤ length d) (p : Placed d 0 99 (to_edits c) l e) where
  pub end_room : e + 1 ≤ length l
  end_room = omega (arith, p.put.0, p.few, p.long, room)

  module _ {l' : List ℕ} {r : ℕ} (q : Puts l e line_end l' r) where
    all_placed : Placed d 0 100 (to_edits c ++ line_end) l' r
    all_placed = behind p (text-placed l e line_end end_room q)

    pub counts_put : Begins d (counts_shown c) l' r
    unfolding counts_shown codes
    counts_put =
        let z : to_edits c ++ line_end ≡ counts_shown c =
        append_assoc (to_pool c) (spaced (space ∷ edits_word) c.edits) line_end
        ∙ six (to_kind c) (spaced (space ∷ nodes_word) c.nodes) (spaced (space ∷ names_word) c.names) (spaced (space ∷ lines_word) c.lines)
        (spaced (space ∷ pool_word) c.pool) (spaced (space ∷ edits_word) c.edits ++ line_end) in
        begins d (counts_shown c) (subst (λ (m : List ℕ). Puts d 0 m l' r) z all_placed.put)

    pub counts-long : length l' ≡ length d
    counts-long = all_placed.long
