-- `show_counts` meets its contract: behind each call the counts stand as far as to one of them. Assumes nothing.
use Prim.Native.Nat.{ℕ, ◌≤◌}
use mathlib.Core.List.{List, ◌∷◌}
use native.Mathlib.Omega.{arith}
use lib.ListN.{length}
use Rattle.numbers.specs.Signs.{space}
use Rattle.book.specs.declared.Counts.{Counts}
use Rattle.printing_book.specs.Shown.{shown_room}
use Rattle.printing_book.proofs.Pieces.{Placed, counts-long, counts_put, edits_word, end_room, kind_word, lines_word, names_word, nodes_word, pool_word, room_behind, room_of, spaced_behind, spaced-placed, to_edits, to_kind, to_lines, to_names, to_nodes, to_pool}
use Rattle.printing_book.proofs.show_counts.Goals as goal

-- ---- the needs
pub put_spaced-a-requires : goal.put_spaced-a-requires
unfolding shown_room
put_spaced-a-requires c = omega arith

pub put_spaced-b-requires : goal.put_spaced-b-requires
put_spaced-b-requires c =
    let ample : 128 ≤ length c.args.out.now = room_of c.args.c c.args.out.now c.requires in
    let Stands : ℕ → (Counts → List ℕ) → List ℕ → ℕ → Type 0 = λ m text l r. Placed c.args.out.now 0 m (text c.args.c) l r in
    let kind : Stands 15 to_kind c.put_spaced-a.new.out c.put_spaced-a.result = spaced-placed _ 0 kind_word c.args.c.kind (omega (arith, ample)) c.put_spaced-a.ensures in
    room_behind kind 6 (omega (arith, ample))

pub put_spaced-d-requires : goal.put_spaced-d-requires
put_spaced-d-requires c =
    let ample : 128 ≤ length c.args.out.now = room_of c.args.c c.args.out.now c.requires in
    let Stands : ℕ → (Counts → List ℕ) → List ℕ → ℕ → Type 0 = λ m text l r. Placed c.args.out.now 0 m (text c.args.c) l r in
    let kind : Stands 15 to_kind c.put_spaced-a.new.out c.put_spaced-a.result = spaced-placed _ 0 kind_word c.args.c.kind (omega (arith, ample)) c.put_spaced-a.ensures in
    let nodes : Stands 32 to_nodes c.put_spaced-b.new.out c.put_spaced-b.result = let p = kind in
    spaced_behind p (space ∷ nodes_word) c.args.c.nodes (omega (arith, ample)) c.put_spaced-b.ensures in
    room_behind nodes 6 (omega (arith, ample))

pub put_spaced-e-requires : goal.put_spaced-e-requires
put_spaced-e-requires c =
    let ample : 128 ≤ length c.args.out.now = room_of c.args.c c.args.out.now c.requires in
    let Stands : ℕ → (Counts → List ℕ) → List ℕ → ℕ → Type 0 = λ m text l r. Placed c.args.out.now 0 m (text c.args.c) l r in
    let kind : Stands 15 to_kind c.put_spaced-a.new.out c.put_spaced-a.result = spaced-placed _ 0 kind_word c.args.c.kind (omega (arith, ample)) c.put_spaced-a.ensures in
    let nodes : Stands 32 to_nodes c.put_spaced-b.new.out c.put_spaced-b.result = let p = kind in
    spaced_behind p (space ∷ nodes_word) c.args.c.nodes (omega (arith, ample)) c.put_spaced-b.ensures in
    let names : Stands 49 to_names c.put_spaced-d.new.out c.put_spaced-d.result = let p = nodes in
    spaced_behind p (space ∷ names_word) c.args.c.names (omega (arith, ample)) c.put_spaced-d.ensures in
    room_behind names 6 (omega (arith, ample))

pub put_spaced-f-requires : goal.put_spaced-f-requires
put_spaced-f-requires c =
    let ample : 128 ≤ length c.args.out.now = room_of c.args.c c.args.out.now c.requires in
    let Stands : ℕ → (Counts → List ℕ) → List ℕ → ℕ → Type 0 = λ m text l r. Placed c.args.out.now 0 m (text c.args.c) l r in
    let kind : Stands 15 to_kind c.put_spaced-a.new.out c.put_spaced-a.result = spaced-placed _ 0 kind_word c.args.c.kind (omega (arith, ample)) c.put_spaced-a.ensures in
    let nodes : Stands 32 to_nodes c.put_spaced-b.new.out c.put_spaced-b.result = let p = kind in
    spaced_behind p (space ∷ nodes_word) c.args.c.nodes (omega (arith, ample)) c.put_spaced-b.ensures in
    let names : Stands 49 to_names c.put_spaced-d.new.out c.put_spaced-d.result = let p = nodes in
    spaced_behind p (space ∷ names_word) c.args.c.names (omega (arith, ample)) c.put_spaced-d.ensures in
    let lines : Stands 66 to_lines c.put_spaced-e.new.out c.put_spaced-e.result = let p = names in
    spaced_behind p (space ∷ lines_word) c.args.c.lines (omega (arith, ample)) c.put_spaced-e.ensures in
    room_behind lines 5 (omega (arith, ample))

pub put_spaced-g-requires : goal.put_spaced-g-requires
put_spaced-g-requires c =
    let ample : 128 ≤ length c.args.out.now = room_of c.args.c c.args.out.now c.requires in
    let Stands : ℕ → (Counts → List ℕ) → List ℕ → ℕ → Type 0 = λ m text l r. Placed c.args.out.now 0 m (text c.args.c) l r in
    let kind : Stands 15 to_kind c.put_spaced-a.new.out c.put_spaced-a.result = spaced-placed _ 0 kind_word c.args.c.kind (omega (arith, ample)) c.put_spaced-a.ensures in
    let nodes : Stands 32 to_nodes c.put_spaced-b.new.out c.put_spaced-b.result = let p = kind in
    spaced_behind p (space ∷ nodes_word) c.args.c.nodes (omega (arith, ample)) c.put_spaced-b.ensures in
    let names : Stands 49 to_names c.put_spaced-d.new.out c.put_spaced-d.result = let p = nodes in
    spaced_behind p (space ∷ names_word) c.args.c.names (omega (arith, ample)) c.put_spaced-d.ensures in
    let lines : Stands 66 to_lines c.put_spaced-e.new.out c.put_spaced-e.result = let p = names in
    spaced_behind p (space ∷ lines_word) c.args.c.lines (omega (arith, ample)) c.put_spaced-e.ensures in
    let pool : Stands 82 to_pool c.put_spaced-f.new.out c.put_spaced-f.result = let p = lines in
    spaced_behind p (space ∷ pool_word) c.args.c.pool (omega (arith, ample)) c.put_spaced-f.ensures in
    room_behind pool 6 (omega (arith, ample))

pub put_text-requires : goal.put_text-requires
put_text-requires c =
    let ample : 128 ≤ length c.args.out.now = room_of c.args.c c.args.out.now c.requires in
    let Stands : ℕ → (Counts → List ℕ) → List ℕ → ℕ → Type 0 = λ m text l r. Placed c.args.out.now 0 m (text c.args.c) l r in
    let kind : Stands 15 to_kind c.put_spaced-a.new.out c.put_spaced-a.result = spaced-placed _ 0 kind_word c.args.c.kind (omega (arith, ample)) c.put_spaced-a.ensures in
    let nodes : Stands 32 to_nodes c.put_spaced-b.new.out c.put_spaced-b.result = let p = kind in
    spaced_behind p (space ∷ nodes_word) c.args.c.nodes (omega (arith, ample)) c.put_spaced-b.ensures in
    let names : Stands 49 to_names c.put_spaced-d.new.out c.put_spaced-d.result = let p = nodes in
    spaced_behind p (space ∷ names_word) c.args.c.names (omega (arith, ample)) c.put_spaced-d.ensures in
    let lines : Stands 66 to_lines c.put_spaced-e.new.out c.put_spaced-e.result = let p = names in
    spaced_behind p (space ∷ lines_word) c.args.c.lines (omega (arith, ample)) c.put_spaced-e.ensures in
    let pool : Stands 82 to_pool c.put_spaced-f.new.out c.put_spaced-f.result = let p = lines in
    spaced_behind p (space ∷ pool_word) c.args.c.pool (omega (arith, ample)) c.put_spaced-f.ensures in
    let edits : Stands 99 to_edits c.put_spaced-g.new.out c.put_spaced-g.result = let p = pool in
    spaced_behind p (space ∷ edits_word) c.args.c.edits (omega (arith, ample)) c.put_spaced-g.ensures in
    end_room c.args.c ample edits

pub shape_of-out : goal.shape_of-out
shape_of-out c =
    let ample : 128 ≤ length c.args.out.now = room_of c.args.c c.args.out.now c.requires in
    let Stands : ℕ → (Counts → List ℕ) → List ℕ → ℕ → Type 0 = λ m text l r. Placed c.args.out.now 0 m (text c.args.c) l r in
    let kind : Stands 15 to_kind c.put_spaced-a.new.out c.put_spaced-a.result = spaced-placed _ 0 kind_word c.args.c.kind (omega (arith, ample)) c.put_spaced-a.ensures in
    let nodes : Stands 32 to_nodes c.put_spaced-b.new.out c.put_spaced-b.result = let p = kind in
    spaced_behind p (space ∷ nodes_word) c.args.c.nodes (omega (arith, ample)) c.put_spaced-b.ensures in
    let names : Stands 49 to_names c.put_spaced-d.new.out c.put_spaced-d.result = let p = nodes in
    spaced_behind p (space ∷ names_word) c.args.c.names (omega (arith, ample)) c.put_spaced-d.ensures in
    let lines : Stands 66 to_lines c.put_spaced-e.new.out c.put_spaced-e.result = let p = names in
    spaced_behind p (space ∷ lines_word) c.args.c.lines (omega (arith, ample)) c.put_spaced-e.ensures in
    let pool : Stands 82 to_pool c.put_spaced-f.new.out c.put_spaced-f.result = let p = lines in
    spaced_behind p (space ∷ pool_word) c.args.c.pool (omega (arith, ample)) c.put_spaced-f.ensures in
    let edits : Stands 99 to_edits c.put_spaced-g.new.out c.put_spaced-g.result = let p = pool in
    spaced_behind p (space ∷ edits_word) c.args.c.edits (omega (arith, ample)) c.put_spaced-g.ensures in
    counts-long c.args.c ample edits c.put_text.ensures

pub returns : goal.returns
returns c =
    let ample : 128 ≤ length c.args.out.now = room_of c.args.c c.args.out.now c.requires in
    let Stands : ℕ → (Counts → List ℕ) → List ℕ → ℕ → Type 0 = λ m text l r. Placed c.args.out.now 0 m (text c.args.c) l r in
    let kind : Stands 15 to_kind c.put_spaced-a.new.out c.put_spaced-a.result = spaced-placed _ 0 kind_word c.args.c.kind (omega (arith, ample)) c.put_spaced-a.ensures in
    let nodes : Stands 32 to_nodes c.put_spaced-b.new.out c.put_spaced-b.result = let p = kind in
    spaced_behind p (space ∷ nodes_word) c.args.c.nodes (omega (arith, ample)) c.put_spaced-b.ensures in
    let names : Stands 49 to_names c.put_spaced-d.new.out c.put_spaced-d.result = let p = nodes in
    spaced_behind p (space ∷ names_word) c.args.c.names (omega (arith, ample)) c.put_spaced-d.ensures in
    let lines : Stands 66 to_lines c.put_spaced-e.new.out c.put_spaced-e.result = let p = names in
    spaced_behind p (space ∷ lines_word) c.args.c.lines (omega (arith, ample)) c.put_spaced-e.ensures in
    let pool : Stands 82 to_pool c.put_spaced-f.new.out c.put_spaced-f.result = let p = lines in
    spaced_behind p (space ∷ pool_word) c.args.c.pool (omega (arith, ample)) c.put_spaced-f.ensures in
    let edits : Stands 99 to_edits c.put_spaced-g.new.out c.put_spaced-g.result = let p = pool in
    spaced_behind p (space ∷ edits_word) c.args.c.edits (omega (arith, ample)) c.put_spaced-g.ensures in
    counts_put c.args.c ample edits c.put_text.ensures
