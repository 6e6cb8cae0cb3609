-- Published vectors (`abc`, the first example of FIPS 180-4 for each kind) and a commit's header, by computation: the definitions compute, so each
-- is the definition's own value. Assumes nothing.
use mathlib.Core.Path.{◌≡◌, refl}
use mathlib.Core.List.{[], ◌∷◌}
use Rattle.hash.specs.Bytes.{at, u32_at}
use Rattle.hash.specs.declared.Kind.TheVariants.{Sha1, Sha256}
use Rattle.digest.specs.Blocks.{times, made, bit_length, padding, padded, words_of, block_count, block_words, digest}
use Rattle.sha1_hash.specs.Sha1.{word1, mix1, constant1, round1, compress1, sha1}
use Rattle.sha256.specs.Sha256.{constants256, word256, round256, compress256, sha256}
use Rattle.commitid.specs.Name.{digest_of, digits_before, commit_header}

-- opens every definition of the digests
all : Unit {0}
unfolding at u32_at times made bit_length padding padded words_of block_count block_words digest word1 mix1 constant1 round1 compress1 sha1 constants256 word256 round256 compress256 sha256
all = tt

sha1_abc : digest_of Sha1 (97 ∷ 98 ∷ 99 ∷ []) ≡ 169 ∷ 153 ∷ 62 ∷ 54 ∷ 71 ∷ 6 ∷ 129 ∷ 106 ∷ 186 ∷ 62 ∷ 37 ∷ 113 ∷ 120 ∷ 80 ∷ 194 ∷ 108 ∷ 156 ∷ 208 ∷ 216 ∷ 157 ∷ []
unfolding all
sha1_abc = refl

sha256_abc : digest_of Sha256 (97 ∷ 98 ∷ 99 ∷ []) ≡ 186 ∷ 120 ∷ 22 ∷ 191 ∷ 143 ∷ 1 ∷ 207 ∷ 234 ∷ 65 ∷ 65 ∷ 64 ∷ 222 ∷ 93 ∷ 174 ∷ 34 ∷ 35 ∷ 176 ∷ 3 ∷ 97 ∷ 163 ∷ 150 ∷ 23 ∷ 122 ∷ 156 ∷ 180 ∷ 16 ∷ 255 ∷ 97 ∷ 242 ∷ 0 ∷ 21 ∷ 173 ∷ []
unfolding all
sha256_abc = refl

-- a body of 250 bytes
header : commit_header 250 ≡ 99 ∷ 111 ∷ 109 ∷ 109 ∷ 105 ∷ 116 ∷ 32 ∷ 50 ∷ 53 ∷ 48 ∷ 0 ∷ []
unfolding commit_header digits_before
header = refl

header-empty : commit_header 0 ≡ 99 ∷ 111 ∷ 109 ∷ 109 ∷ 105 ∷ 116 ∷ 32 ∷ 48 ∷ 0 ∷ []
unfolding commit_header digits_before
header-empty = refl
