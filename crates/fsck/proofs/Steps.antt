-- The check's steps: a refusal of the files is the report, else the names decide, else the checksum. Assumes nothing.
use Rattle.std.specs.Prelude.{Err, None, Option, Some}
use mathlib.Core.Path.{◌≡◌, refl}
use Prim.Native.Nat.{ℕ}
use mathlib.Core.List.{List}
use native.Mathlib.Omega.{arith}
use Rattle.hash.specs.declared.Kind.{Kind}
use Rattle.idlist.specs.IdList.{found_of}
use Rattle.odb.specs.Store.{entries}
use Rattle.walk.specs.declared.Refusal.{Refusal}
use Rattle.fsck.specs.Names.{first_false, report_of, names_report, files_refusal, report_after, check_names}

pub found_at : (o : Option ℕ) (k : ℕ) → Some k ≡ found_of o → o ≡ Some k
found_at None k e = let z : ◌≡◌ {A = ℕ} 0 1 = cc in absurd (omega arith)
found_at (Some j) k e = cc

pub found_none : (o : Option ℕ) → None ≡ found_of o → o ≡ None
found_none None e = refl
found_none (Some j) e = let z : ◌≡◌ {A = ℕ} 0 1 = cc in absurd (omega arith)

module _ (kind : Kind) (store graph : List ℕ) where
  pub after-refused : (r : Refusal) → files_refusal kind store graph ≡ Some r → check_names kind store graph ≡ report_of (Err r) 0
  unfolding check_names report_after
  after-refused r e = rw e

  pub after-fine : files_refusal kind store graph ≡ None → check_names kind store graph ≡ names_report kind graph (first_false kind store 0 (entries store))
  unfolding check_names report_after
  after-fine e = rw e
