-- Bytes as numbers, the first the lowest. Assumes nothing.
use Rattle.std.specs.Prelude.{ℕ, ◌+◌, ◌*◌, ◌<◌, ◌≡◌, List, get_or}

-- four bytes
unfoldable pub half32 : List ℕ → ℕ → ℕ
half32 b i = get_or b i 0 + get_or b (i + 1) 0 * 256 + get_or b (i + 2) 0 * 65536 + get_or b (i + 3) 0 * 16777216

-- eight bytes
unfoldable pub word64 : List ℕ → ℕ → ℕ
word64 b i = half32 b i + half32 b (i + 4) * 4294967296

-- n bytes at place i of a are those at place j of b
abbrev pub Agree : List ℕ → ℕ → List ℕ → ℕ → ℕ → Type 0
Agree a i b j n = (m : ℕ) → m < n → get_or a (i + m) 0 ≡ get_or b (j + m) 0

-- opens every definition of this file, for theorems that compute
unfoldable pub words_all : Unit {0}
unfolding half32 word64
words_all = tt
