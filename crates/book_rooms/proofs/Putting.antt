-- What is kept of a token, put into the pool: how far the pool can be filled, that the bytes that are put at the front of a part of it are pasted into it, and
-- what an answer of `put_token` says. Assumes nothing.
use Prim.Native.Nat.{ℕ, ◌+◌, ◌-◌, ◌≤◌, ◌<◌}
use mathlib.Core.Path.{◌≡◌, refl, sym, ap, ◌∙◌}
use mathlib.Core.List.{List, ◌++◌, append_assoc}
use mathlib.Core.Bool.{Bool, true, false, cond, true≢false}
use native.Mathlib.Decide.{dec_le}
use native.Mathlib.Omega.{arith}
use borrow.Author.Tests.{le-leb, lt-leb, ltb-false, ltb-true}
use lib.Dec.{leb, ltb}
use lib.ListN.{length, take, drop, length-take, length-drop, take-append-drop}
use lib.Seq.{paste, drop-append-le, drop-drop, take-length}
use Rattle.numbers.specs.Limits.{pool_limit}
use Rattle.lists.specs.Front.{front}
use Rattle.classes.specs.declared.Class.{Class}
use Rattle.storing.specs.declared.Stored.{Stored}
use Rattle.std.specs.Prelude.{Result, Ok, Err}
use Rattle.numbers.specs.declared.Refusal.{Refusal}
use Rattle.numbers.specs.declared.Refusal.TheVariants as no
use Rattle.storing.specs.Keeping.{Keep, kept, refused}
use Rattle.storing.specs.Answers.{Stores, keep_answer, keep_buffer}
use Rattle.book_rooms.specs.Rooms.{Put, open_part, pool_room}

-- ---- how far the pool q can be filled
pub room-length : (q : List ℕ) → pool_room q ≤ length q
room-length q = go (ltb pool_limit (length q)) refl
  where
    go : (x : Bool) → ltb pool_limit (length q) ≡ x → cond x pool_limit (length q) ≤ length q
    go true h = omega (arith, ltb-true pool_limit (length q) h)
    go false h = omega arith

pub room_limit : (q : List ℕ) → pool_room q ≤ pool_limit
room_limit q = go (ltb pool_limit (length q)) refl
  where
    go : (x : Bool) → ltb pool_limit (length q) ≡ x → cond x pool_limit (length q) ≤ pool_limit
    go true h = omega arith
    go false h = ltb-false pool_limit (length q) h

pub room-both : (q : List ℕ) (k : ℕ) → k ≤ length q → k ≤ pool_limit → k ≤ pool_room q
room-both q k a b = go (ltb pool_limit (length q))
  where
    go : (x : Bool) → k ≤ cond x pool_limit (length q)
    go true = b
    go false = a

-- ---- what is behind the part that can be filled from `at` on
behind_part : (q : List ℕ) (at : ℕ) → at ≤ pool_room q → drop (pool_room q - at) (drop at q) ≡ drop (pool_room q) q
behind_part q at h =
    let n : at + (pool_room q - at) ≡ pool_room q = omega arith in
    drop-drop (pool_room q - at) at q ∙ ap (λ (k : ℕ). drop k q) n

-- what `store_token` answers and leaves in the part up to `end`
pub put-part : (K : Keep) (q v : List ℕ) (at end : ℕ) (r : Result Stored Refusal) → end ≡ pool_room q → at ≤ pool_room q
    → Stores K (take (end - at) (drop at q)) r v → Put K q at r (take at q ++ (v ++ drop (end - at) (drop at q)))
put-part K q v at end r e h s =
    let t : Stores K (open_part q at) r v = rw e at s in
    (t.0, rw (e, behind_part q at h, t.1))

-- ---- bytes at the front of that part, and the part as it was
front-part : (q bs : List ℕ) (at : ℕ) → at + length bs ≤ pool_room q
    → take at q ++ (front bs (open_part q at) ++ drop (pool_room q) q) ≡ paste q at bs (length bs)
unfolding front
front-part q bs at h =
    let k : ℕ = pool_room q - at in
    let d : List ℕ = drop at q in
    let l : length bs ≤ length (take k d) = omega (arith, room-length q, length-take k d, length-drop at q) in
    let e : drop (length bs) (take k d) ++ drop k d ≡ drop (length bs) d
    = sym (drop-append-le (length bs) (take k d) (drop k d) l) ∙ ap (drop (length bs)) (take-append-drop k d) in
    ap (λ (x : List ℕ). take at q ++ (front bs (open_part q at) ++ x)) (sym (behind_part q at (omega arith)))
    ∙ ap (λ (x : List ℕ). take at q ++ x) (append_assoc bs (drop (length bs) (take k d)) (drop k d) ∙ ap (λ (x : List ℕ). bs ++ x) (e ∙ drop-drop (length bs) at q))
    ∙ rw (take-length, append_assoc)

same_part : (q : List ℕ) (at : ℕ) → at ≤ pool_room q → take at q ++ (open_part q at ++ drop (pool_room q) q) ≡ q
same_part q at h =
    ap (λ (x : List ℕ). take at q ++ (open_part q at ++ x)) (sym (behind_part q at h))
    ∙ ap (λ (x : List ℕ). take at q ++ x) (take-append-drop (pool_room q - at) (drop at q))
    ∙ take-append-drop at q

part_length : (q : List ℕ) (at : ℕ) → length (open_part q at) ≡ pool_room q - at
part_length q at = omega (arith, room-length q, length-take (pool_room q - at) (drop at q), length-drop at q)

-- ---- by the room that there is: the bytes are pasted into the pool, or it is as it was
abbrev Placed : Keep → List ℕ → ℕ → Result Stored Refusal → List ℕ → Type 0
Placed (kept k bs) q at r q' =
    (at + length bs ≤ pool_room q → (r ≡ Ok (record { class = k; size = length bs })) × (q' ≡ paste q at bs (length bs)))
    × (pool_room q < at + length bs → (r ≡ Err no.NoRoom) × (q' ≡ q))
Placed (refused n) q at r q' = (r ≡ Err n) × (q' ≡ q)

placed : (K : Keep) (q : List ℕ) (at : ℕ) (r : Result Stored Refusal) (q' : List ℕ) → at ≤ pool_room q → Put K q at r q' → Placed K q at r q'
unfolding keep_answer keep_buffer
placed (kept k bs) q at r q' h p =
    let n = part_length q at in (
      λ i.
          let t : leb (length bs) (length (open_part q at)) ≡ true = le-leb (length bs) (length (open_part q at)) (omega arith) in
          (p.0 ∙ rw t, p.1 ∙ rw t (front-part q bs at i)),
      λ i.
          let t : leb (length bs) (length (open_part q at)) ≡ false = lt-leb (length bs) (length (open_part q at)) (omega arith) in
          (p.0 ∙ rw t, p.1 ∙ rw t (same_part q at h)),
    )
placed (refused n) q at r q' h p = (p.0, p.1 ∙ same_part q at h)

-- ---- what is kept of a token that was put there
pub record Kept (K : Keep) (q : List ℕ) (at : ℕ) (q' : List ℕ) (k : Class) (i : ℕ) : Type 0 where
  pub bytes : List ℕ
  pub keeps : K ≡ kept k bytes
  pub size : i ≡ length bytes
  pub room : at + length bytes ≤ pool_room q
  pub put : q' ≡ paste q at bytes (length bytes)

pub was_kept : (K : Keep) (q : List ℕ) (at : ℕ) (r : Result Stored Refusal) (q' : List ℕ) (s : Stored) → at ≤ pool_room q → Put K q at r q'
    → r ≡ Ok s → Kept K q at q' s.class s.size
was_kept (kept j bs) q at r q' s a p z = go (dec_le (at + length bs) (pool_room q))
  where
    go : Dec (at + length bs ≤ pool_room q) → Kept (kept j bs) q at q' s.class s.size
    go (yes h) =
        let v = (placed (kept j bs) q at r q' a p).0 h in
        let b = v.0 in
        let w : record { class = j; size = length bs } ≡ s = cc in
        let d : j ≡ s.class = ap (λ (x : Stored). x.class) w in
        let c : s.size ≡ length bs = sym (ap (λ (x : Stored). x.size) w) in
        record { bytes = bs; keeps = ap (λ (x : Class). kept x bs) d; size = c; room = h; put = v.1 }
    go (no h) = let b = ((placed (kept j bs) q at r q' a p).1 (omega arith)).0 in absurd (true≢false (cc))
was_kept (refused n) q at r q' s a p z = let b = (placed (refused n) q at r q' a p).0 in absurd (true≢false (cc))

-- of one that was refused: by its refusal, or for want of room; and the pool is as it was
abbrev pub RefusedAs : Keep → List ℕ → ℕ → Refusal → Type 0
RefusedAs (kept k bs) q at x = (pool_room q < at + length bs) × (x ≡ no.NoRoom)
RefusedAs (refused n) q at x = x ≡ n

pub was_refused : (K : Keep) (q : List ℕ) (at : ℕ) (r : Result Stored Refusal) (q' : List ℕ) (x : Refusal) → at ≤ pool_room q → Put K q at r q'
    → r ≡ Err x → RefusedAs K q at x × (q' ≡ q)
was_refused (kept k bs) q at r q' x a p z = go (dec_le (at + length bs) (pool_room q))
  where
    go : Dec (at + length bs ≤ pool_room q) → RefusedAs (kept k bs) q at x × (q' ≡ q)
    go (yes h) = let b = ((placed (kept k bs) q at r q' a p).0 h).0 in absurd (true≢false (cc))
    go (no h) =
        let m : pool_room q < at + length bs = omega arith in
        let v = (placed (kept k bs) q at r q' a p).1 m in
        let b = v.0 in
        let i : x ≡ no.NoRoom = cc in
        ((m, i), v.1)
was_refused (refused n) q at r q' x a p z =
    let v = placed (refused n) q at r q' a p in
    let b = v.0 in
    let i : x ≡ n = cc in
    (i, v.1)
