-- A line's place in the ranking as one number, and what it is to decide, said without a walk. Assumes nothing.
use Rattle.std.specs.Prelude.{ℕ, ◌+◌, ◌-◌, ◌*◌, ◌<◌, ◌≤◌, ◌≡◌, List, Bool, true, cond, length}
use Rattle.numbers.specs.Classes.{by_bytes, nonstar_class}
use Rattle.book.specs.Books.{Line}
use Rattle.book.specs.Edits.{line_at}

-- the number of the stage, of a book with n nodes, that looks at the line
unfoldable pub rank : ℕ → Line → ℕ
rank n x =
    cond (by_bytes x.class) (4 * x.node + 2 * x.language + x.section)
    (4 * n + 2 * n * (x.class - nonstar_class) + 2 * (n - 1 - x.node) + x.section)

-- line i decides, among lines of which m says which match: it matches, no line that matches is ahead of it, and at equal rank none has a lower number
pub record Decides (n : ℕ) (m : Line → Bool) (ls : List Line) (i : ℕ) : Type 0 where
  pub there : i < length ls
  pub matching : m (line_at ls i) ≡ true
  pub first : (j : ℕ) → j < length ls → m (line_at ls j) ≡ true → rank n (line_at ls i) ≤ rank n (line_at ls j)
  pub lowest : (j : ℕ) → j < i → m (line_at ls j) ≡ true → rank n (line_at ls i) < rank n (line_at ls j)
