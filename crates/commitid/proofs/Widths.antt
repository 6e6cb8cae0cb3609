-- A digest is as wide as an id of its kind, whatever its bytes are made of: five words of 4 bytes, or eight. Assumes nothing.
use mathlib.Core.Path.{◌≡◌, refl}
use Prim.Native.Nat.{ℕ}
use mathlib.Core.List.{List}
use lib.ListN.{length}
use Rattle.hash.specs.Bytes.{width_of}
use Rattle.hash.specs.declared.Kind.{Kind}
use Rattle.hash.specs.declared.Kind.TheVariants.{Sha1, Sha256}
use Rattle.digest.specs.Blocks.{digest}
use Rattle.sha1_hash.specs.Sha1.{sha1}
use Rattle.sha256.specs.Sha256.{sha256}
use Rattle.commitid.specs.Name.{digest_of, commit_object, commit_id}

pub length_digest : (kind : Kind) (m : List ℕ) → length (digest_of kind m) ≡ width_of kind
unfolding digest sha1 sha256
length_digest Sha1 m = refl
length_digest Sha256 m = refl

pub length_id : (kind : Kind) (body : List ℕ) → length (commit_id kind body) ≡ width_of kind
unfolding commit_id
length_id kind body = length_digest kind (commit_object body)
