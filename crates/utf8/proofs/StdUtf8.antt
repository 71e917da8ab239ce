-- `utf8` is what std calls UTF-8: both say that the bytes are the encoding of character numbers. Assumes nothing.
use Prim.Native.Nat.{ℕ, ◌<◌, ◌≤◌}
use mathlib.Core.Path.{◌≡◌, refl, ap₂, ◌∙◌}
use mathlib.Core.Bool.{Bool, true, ◌&&◌}
use mathlib.Core.List.{List, [], ◌∷◌, ◌++◌}
use native.Mathlib.Decide.{dec_lt}
use native.Mathlib.Omega.{arith}
use borrow.Author.Tests.{lt-ltb, le-ltb, le-leb, lt-leb}
use lib.Utf8.{scalar as std_scalar, scalars as std_scalars, encode as std_encode, encodes}
use Rattle.std.specs.Str.{IsUtf8}
use Rattle.lists.specs.Each.{every}
use Rattle.utf8.specs.Utf8.{scalar, scalars, encode, encoding, chars, utf8}
use Rattle.utf8.proofs.Rfc3629.{encoding-utf8, chars-scalars, chars-encoding}

scalar_std : (c : ℕ) → scalar c ≡ std_scalar c
unfolding scalar
scalar_std c = go (dec_lt c 0xD800) (dec_lt c 0xE000) (dec_lt c 0x110000)
  where
    go : Dec (c < 0xD800) → Dec (c < 0xE000) → Dec (c < 0x110000) → scalar c ≡ std_scalar c
    go (yes h) _ _ = let k : c ≤ 0x10FFFF = omega arith in rw (le-leb c 0x10FFFF k, lt-ltb c 0xD800 h)
    go (no h) (yes k) _ =
        let l : c ≤ 0xDFFF = omega arith in
        let m : 0xD800 ≤ c = omega arith in
        let n : c ≤ 0x10FFFF = omega arith in
        rw (le-leb c 0x10FFFF n, le-ltb c 0xD800 m, le-ltb 0xDFFF c l)
    go (no h) (no k) (yes l) =
        let n : c ≤ 0x10FFFF = omega arith in
        let m : 0xD800 ≤ c = omega arith in
        let o : 0xDFFF < c = omega arith in
        rw (le-leb c 0x10FFFF n, le-ltb c 0xD800 m, lt-ltb 0xDFFF c o, lt-ltb c 0x110000 l)
    go (no h) (no k) (no l) =
        let n : 0x10FFFF < c = omega arith in
        let m : 0xD800 ≤ c = omega arith in
        let q : 0xE000 ≤ c = omega arith in
        let o : 0x110000 ≤ c = omega arith in
        rw (lt-leb c 0x10FFFF n, le-ltb c 0xD800 m, le-leb 0xE000 c q, le-ltb c 0x110000 o)

scalars_std : (cs : List ℕ) → scalars cs ≡ std_scalars cs
unfolding scalars every
scalars_std [] = refl
scalars_std (c ∷ cs) = ap₂ (λ (a b : Bool). a && b) (scalar_std c) (scalars_std cs)

encode_std : (c : ℕ) → encode c ≡ std_encode c
unfolding encode std_encode
encode_std c = refl

encoding_std : (cs : List ℕ) → encoding cs ≡ encodes cs
unfolding encoding
encoding_std [] = refl
encoding_std (c ∷ cs) = ap₂ (λ (a b : List ℕ). a ++ b) (encode_std c) (encoding_std cs)

pub utf8_is : (s : List ℕ) → utf8 s ≡ true → IsUtf8 s
utf8_is s h = (chars s, (rw (← scalars_std (chars s)) (chars-scalars s h), rw (← encoding_std (chars s)) (chars-encoding s h)))

pub is_utf8 : (s : List ℕ) → IsUtf8 s → utf8 s ≡ true
is_utf8 s h =
    let cs : List ℕ = h.0 in
    rw (← h.1.1, ← encoding_std cs) (encoding-utf8 cs (scalars_std cs ∙ h.1.0))
