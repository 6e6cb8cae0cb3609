-- A commit's id (document 02, card 2): "a commit's id is the digest of `commit `, the body length in decimal, a zero byte and the body"; the
-- digest is that of the repository's kind (card 13). Assumes nothing.
use Rattle.std.specs.Prelude.{ℕ, zero, suc, ◌+◌, ◌/◌, ◌%◌, List, [], ◌∷◌, ◌++◌, length, ltb}
use Rattle.hash.specs.Bytes.{Id, pick}
use Rattle.hash.specs.declared.Kind.{Kind}
use Rattle.hash.specs.declared.Kind.TheVariants.{Sha1, Sha256}
use Rattle.sha1_hash.specs.Sha1.{sha1}
use Rattle.sha256.specs.Sha256.{sha256}

-- the digest of a kind
abbrev pub digest_of : Kind → List ℕ → Id
digest_of Sha1 m = sha1 m
digest_of Sha256 m = sha256 m

-- the decimal digits of n in front of a list, the last digit set down first; the count bounds the digits
unfoldable pub digits_before : ℕ → ℕ → List ℕ → List ℕ
digits_before zero n s = (48 + n % 10) ∷ s
digits_before (suc k) n s = pick (ltb n 10) ((48 + n % 10) ∷ s) (digits_before k (n / 10) ((48 + n % 10) ∷ s))

-- `commit `, the length in decimal, a zero byte
unfoldable pub commit_header : ℕ → List ℕ
commit_header n = 99 ∷ 111 ∷ 109 ∷ 109 ∷ 105 ∷ 116 ∷ 32 ∷ digits_before n n (0 ∷ [])

-- the bytes whose digest a commit's id is
unfoldable pub commit_object : List ℕ → List ℕ
commit_object body = commit_header (length body) ++ body

-- the id of the commit with this body
unfoldable pub commit_id : Kind → List ℕ → Id
commit_id kind body = digest_of kind (commit_object body)
