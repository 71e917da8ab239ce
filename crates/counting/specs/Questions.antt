-- What a version book is asked about its nodes: the counts, as 01 has them under 'Ranking'; and a node's name and parent, for who shows a book, which 01 does
-- not name. Assumes nothing.
use Rattle.std.specs.Prelude.{ℕ, ◌+◌, List, [], ◌∷◌, cond, eqb, ltb, length, get_or, take, Option, Some, None, Result, Ok, Err, ⊤}
use Rattle.numbers.specs.declared.Refusal.{Refusal}
use Rattle.numbers.specs.declared.Refusal.TheVariants as no
use Rattle.packing.specs.Tables.{packed}
use Rattle.book.specs.Books.{Node, Book, export, no_node}
use Rattle.book.specs.Layout.{node_form}
use Rattle.counting.specs.declared.Node.{Node as NodeTold}

-- "The count of versions is 0 when only node 0 stands, else all nodes."
unfoldable pub version_count : Book → ℕ
version_count w = cond (eqb (length w.nodes) 1) 0 (length w.nodes)

-- the count of parents: how many nodes have one
unfoldable pub parents_among : List Node → ℕ
parents_among [] = 0
parents_among (x ∷ xs) = cond (eqb x.parent 0) 0 1 + parents_among xs

unfoldable pub parent_count : Book → ℕ
parent_count w = parents_among w.nodes

-- ---- "Order: 14, 13, 11": "version, locality or count query on an export list" is refused 13
-- what refuses a question of a version book
unfoldable pub unasked : Option Book → Result ⊤ Refusal
unasked None = Err no.NoBook
unasked (Some w) = cond (eqb w.kind export) (Err no.WrongKind) (Ok tt)

unfoldable pub counted : (Book → ℕ) → Option Book → Result ℕ Refusal
counted f None = Err no.NoBook
counted f (Some w) = cond (eqb w.kind export) (Err no.WrongKind) (Ok (f w))

-- a node: where its name starts among the names, how long it is, and its parent's number or 0
abbrev pub told_of : ℕ → ℕ → ℕ → NodeTold
told_of start len parent = record { start = start; len = len; parent = parent }

unfoldable pub node_told : ℕ → Book → Result NodeTold Refusal
node_told i w =
    cond (ltb i (length w.nodes))
    (Ok (told_of (length (packed node_form (take i w.nodes))) (length (get_or w.nodes i no_node).name) (get_or w.nodes i no_node).parent))
    (Err no.NoSuch)

unfoldable pub node_of : ℕ → Option Book → Result NodeTold Refusal
node_of i None = Err no.NoBook
node_of i (Some w) = cond (eqb w.kind export) (Err no.WrongKind) (node_told i w)

-- ---- the value of a count, 0 where it is refused; its number is `refusal_of`
abbrev pub count_value : Result ℕ Refusal → ℕ
count_value (Ok n) = n
count_value (Err e) = 0
