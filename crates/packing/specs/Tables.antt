-- Things laid out as rows of numbers, with the bytes of each packed one behind the other in a second buffer: "each start is the sum of the lengths
-- before it". One account for nodes with their names, lines with their bytes, and edits, which have none. Assumes nothing.
use Rattle.std.specs.Prelude.{ℕ, zero, suc, ◌+◌, List, [], ◌∷◌, ◌++◌, Bool, ◌&&◌, eqb, leb, length, take, drop}
use Rattle.packing.specs.Padding.{all_zero}

-- how a thing is laid out: how many numbers its row has, the row when its bytes start at a place, and its bytes; and how it is read back, from a list with
-- the row at its front: whether the row tells the place as its start, how many bytes it tells, and the thing that it is with these bytes
pub record Form (X : Type 0) : Type 0 where
  pub width : ℕ
  pub row : ℕ → X → List ℕ
  pub bytes : X → List ℕ
  pub starts : ℕ → List ℕ → Bool
  pub size : List ℕ → ℕ
  pub back : List ℕ → List ℕ → X

-- the form of things whose bytes lie s places further on than those of F are told to: a row tells the place with s added
abbrev pub shifted : {X : Type 0} → ℕ → Form X → Form X
shifted s F = record {
  width = F.width;
  row = λ o x. F.row (s + o) x;
  bytes = F.bytes;
  starts = λ o l. F.starts (s + o) l;
  size = F.size;
  back = F.back;
}

module _ {X : Type 0} (F : Form X) where
  -- the rows of things whose bytes start at o, and their bytes
  unfoldable pub rows : ℕ → List X → List ℕ
  rows o [] = []
  rows o (x ∷ xs) = F.row o x ++ rows (o + length (F.bytes x)) xs

  unfoldable pub packed : List X → List ℕ
  packed [] = []
  packed (x ∷ xs) = F.bytes x ++ packed xs

  -- the things that n rows at the front of l and the bytes ps give
  unfoldable pub things : ℕ → List ℕ → List ℕ → List X
  things zero l ps = []
  things (suc n) l ps = F.back l (take (F.size l) ps) ∷ things n (drop F.width l) (drop (F.size l) ps)

  -- whether n rows stand at the front of l, the first with its bytes at o and the last with its bytes up to p, "so each start is the sum of the lengths
  -- before it", each thing is as `ok` asks, and "the rest is zero"
  unfoldable pub fine : (X → Bool) → ℕ → ℕ → ℕ → List ℕ → List ℕ → Bool
  fine ok p zero o l ps = eqb o p && all_zero l
  fine ok p (suc n) o l ps =
      leb F.width (length l)
      && (F.starts o l
      && (leb (o + F.size l) p
      && (ok (F.back l (take (F.size l) ps))
      && fine ok p n (o + F.size l) (drop F.width l) (drop (F.size l) ps))))

  -- whether n rows in l and k bytes in p are packed so
  unfoldable pub packs : (X → Bool) → ℕ → ℕ → List ℕ → List ℕ → Bool
  packs ok n k l p = leb k (length p) && (all_zero (drop k p) && fine ok k n 0 l p)
