-- What a function answers, and what it leaves in a lent buffer. Assumes nothing.
use Rattle.std.specs.Prelude.{Result, Ok, Err, ℕ, ◌≡◌, List, leb, length}
use Rattle.lists.specs.Front.{front}
use Rattle.storing.specs.declared.Stored.{Stored}
use Rattle.numbers.specs.declared.Refusal.{Refusal}
use Rattle.storing.specs.Keeping.{Keep, kept_where}

-- the bytes that are kept stand at the front of the buffer where there is room for them; "a … byte … room would be passed" is asked last
unfoldable pub keep_answer : Keep → ℕ → Result Stored Refusal
keep_answer x room = kept_where (λ b. leb (length b) room) (λ k b. Ok (record { class = k; size = length b })) Err x

-- what stands behind them stays, and a refusal leaves all as it was
unfoldable pub keep_buffer : Keep → List ℕ → List ℕ
keep_buffer x d = kept_where (λ b. leb (length b) (length d)) (λ k b. front b d) (λ n. d) x

-- both: r is answered, and d' is what is left of the buffer d
abbrev pub Stores : Keep → List ℕ → Result Stored Refusal → List ℕ → Type 0
Stores x d r d' = (r ≡ keep_answer x (length d)) × (d' ≡ keep_buffer x d)

-- the bytes b are copied to the front of the buffer d, of which d' is left, and n of them are told
abbrev pub Copies : List ℕ → List ℕ → ℕ → List ℕ → Type 0
Copies b d n d' = (n ≡ length b) × (d' ≡ front b d)
