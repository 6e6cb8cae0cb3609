-- Ids by value have room for either kind, whatever was read, so that the id in front has the width of the walk's ids. Assumes nothing.
use Rattle.std.specs.Prelude.{None, Option, Some}
use Rattle.commitgraph.specs.declared.Layout.{Layout}
use mathlib.Core.Path.{◌≡◌, refl, ◌∙◌, ap}
use Prim.Native.Nat.{ℕ, ◌≤◌}
use mathlib.Core.Bool.{Bool, true, false}
use mathlib.Core.List.{List}
use native.Mathlib.Omega.{arith}
use lib.ListN.{length, drop}
use lib.Seq.{length-take-le}
use lib.Dec.{ltb}
use Rattle.hash.specs.Bytes.{Id, if_some, pick, width_of}
use Rattle.hash.specs.declared.Kind.{Kind}
use Rattle.hash.proofs.Widths.{width-most}
use Rattle.object.specs.Header.{id_line, parent_word, most}
use Rattle.object.specs.Ids.{id_room, id_in, padded}
use Rattle.object.specs.Read.{id_read, parent_at}
use Rattle.object.specs.declared.ObjectId.{ObjectId}
use Rattle.object.proofs.IdBytes.{padded_length}
use Rattle.odb.specs.Lookup.{part_of}
use Rattle.odb.specs.declared.Located.TheVariants.{Body as BodyAt}
use Rattle.reading.specs.Body.{no_bytes, parent_place, parent_id_at}
use Rattle.reading.specs.Row.{row_parent}
use Rattle.reading.specs.Whole.{ParentAt, GivesParent}
use Rattle.reading.specs.declared.Commit.{Commit}
use Rattle.reading.specs.declared.Commit.TheVariants.{Row, Body, Failed}

pub id_in-width : (w : ℕ) → w ≤ id_room → (o : List ℕ) → length o ≡ id_room → length (id_in w o) ≡ w
unfolding id_in
id_in-width w small o e = length-take-le w o (omega (arith, small, e))

pub id_in-kind : (kind : Kind) (o : List ℕ) → length o ≡ id_room → length (id_in (width_of kind) o) ≡ width_of kind
id_in-kind kind o e = id_in-width (width_of kind) (width-most kind) o e

read_length : (o : Option (Id × List ℕ)) → length (if_some (id_read o) no_bytes (λ x. x.bytes)) ≡ id_room
read_length None = refl
read_length (Some t) = padded_length t.0

either_length : (b : Bool) (x y : List ℕ) → length x ≡ id_room → length y ≡ id_room → length (pick b x y) ≡ id_room
either_length true x y h k = h
either_length false x y h k = k

pub parent_length : (w : ℕ) (b : List ℕ) (k : ℕ) → length (parent_id_at w b k) ≡ id_room
unfolding parent_id_at parent_at
parent_length w b k = either_length (ltb k most) _ _ (read_length (id_line w parent_word (drop (parent_place w k) b))) refl

-- what `parent_of` gives
pub gives_length : {w : ℕ} {c : Option Layout} {g s : List ℕ} {k : ℕ} {r : ObjectId} (m : Commit) → GivesParent w c g s m k r → length r.bytes ≡ id_room
gives_length {w} (Row p n q) v = ap length v.is ∙ padded_length _
gives_length {w} {s = s} {k} (Body a e n q) v = ap length v.is ∙ parent_length w (part_of s (BodyAt a e)) k
gives_length {w} (Failed r) v = ap length v.is
