-- The check of names (document 02, card 2): "The check is a call of its own over a book and graph … It refuses the first false name in id order and
-- returns that entry's number, counted from 0. Refused: 16 false name, 17 graph checksum false, both after 6 of that call and 16 first."
-- Assumes nothing.
use Rattle.std.specs.Prelude.{ℕ, zero, suc, ◌-◌, ◌<◌, ◌≡◌, Bool, true, false, cond, ◌||◌, List, [], length, take, drop, Err, None, Ok, Option, Result, Some}
use Rattle.hash.specs.Bytes.{eq_id, width_of}
use Rattle.hash.specs.declared.Kind.{Kind}
use Rattle.idlist.specs.IdList.{id_of}
use Rattle.odb.specs.Store.{entry_ids, entries, body}
use Rattle.walk.specs.State.{is_empty}
use Rattle.walk.specs.Opening.{Input, refusal}
use Rattle.walk.specs.Refusals.{number_of}
use Rattle.walk.specs.declared.Settings.{Settings}
use Rattle.walk.specs.declared.Sorting.TheVariants.{BreadthFirst}
use Rattle.walk.specs.declared.Parents.TheVariants.{All}
use Rattle.walk.specs.declared.Refusal.{Refusal}
use Rattle.walk.specs.declared.Refusal.TheVariants.{FalseName, FalseChecksum}
use Rattle.opening.specs.Checks.{input_of}
use Rattle.commitid.specs.Name.{digest_of, commit_id}
use Rattle.fsck.specs.declared.Report.{Report}

-- entry k is under the id of the commit with its body
unfoldable pub true_name : Kind → List ℕ → ℕ → Bool
true_name kind b k = eq_id (commit_id kind (body (width_of kind) b k)) (id_of (entry_ids (width_of kind) b) k)

-- "the first false name in id order": of n entries from k on, the number of the first whose name is false. Ids rise, so id order is their own
unfoldable pub first_false : Kind → List ℕ → ℕ → ℕ → Option ℕ
first_false kind b k zero = None
first_false kind b k (suc n) =
    let r = first_false kind b (suc k) n in
    cond (true_name kind b k) r (Some k)

-- the file ends in the digest of the rest
unfoldable pub true_sum : Kind → List ℕ → Bool
true_sum kind g =
    let n = length g - width_of kind in
    eq_id (digest_of kind (take n g)) (drop n g)

-- "A zero-length graph means none" (document 01), and none has no checksum
unfoldable pub sum_ok : Kind → List ℕ → Bool
sum_ok kind g = is_empty g || true_sum kind g

abbrev pub report_of : Result (Unit {0}) Refusal → ℕ → Report
report_of c k = record { outcome = c; entry = k }

-- 17, where every name is true
unfoldable pub sum_report : Kind → List ℕ → Report
sum_report kind g = cond (sum_ok kind g) (report_of (Ok tt) 0) (report_of (Err FalseChecksum) 0)

-- 16, with the entry's number, then 17
unfoldable pub names_report : Kind → List ℕ → Option ℕ → Report
names_report kind g None = sum_report kind g
names_report kind g (Some k) = report_of (Err FalseName) k

-- 2, 4, 5 and 6 of an opening of these files: with no list, 3 cannot come, and of the settings the kind of ids alone plays a part
abbrev pub any_settings : Kind → Settings
any_settings kind = record { sorting = BreadthFirst; parents = All; kind = kind }

abbrev pub files_input : Kind → List ℕ → List ℕ → Input
files_input kind store graph = input_of store graph [] [] [] (any_settings kind)

abbrev pub files_refusal : Kind → List ℕ → List ℕ → Option Refusal
files_refusal kind store graph = refusal (files_input kind store graph)

unfoldable pub report_after : Kind → List ℕ → List ℕ → Option Refusal → Report
report_after kind store graph None = names_report kind graph (first_false kind store 0 (entries store))
report_after kind store graph (Some r) = report_of (Err r) 0

-- the whole check
unfoldable pub check_names : Kind → List ℕ → List ℕ → Report
check_names kind store graph = report_after kind store graph (files_refusal kind store graph)

-- the number of an outcome: 0 where there is no fault
abbrev pub checked_number : Result (Unit {0}) Refusal → ℕ
checked_number (Ok _) = 0
checked_number (Err r) = number_of r

-- ---- what a report means

-- the layout is good, every entry is under the id of its body, and the checksum, where there is one, is true
pub record AllTrue (kind : Kind) (store graph : List ℕ) : Type 0 where
  pub laid_out : files_refusal kind store graph ≡ None
  pub names : (k : ℕ) → k < entries store → true_name kind store k ≡ true
  pub checksum : sum_ok kind graph ≡ true

-- entry k is the first under a false name
pub record FirstFalse (kind : Kind) (store graph : List ℕ) (k : ℕ) : Type 0 where
  pub laid_out : files_refusal kind store graph ≡ None
  pub entry : k < entries store
  pub not_its : true_name kind store k ≡ false
  pub before_it : (j : ℕ) → j < k → true_name kind store j ≡ true

-- every name is true, and the checksum of the graph that is lent is false
pub record SumFalse (kind : Kind) (store graph : List ℕ) : Type 0 where
  pub laid_out : files_refusal kind store graph ≡ None
  pub names : (k : ℕ) → k < entries store → true_name kind store k ≡ true
  pub checksum : sum_ok kind graph ≡ false

-- the report r is right: 2 to 6 of the files, else 16 with the first false name, else 17, else 0
pub data Means (kind : Kind) (store graph : List ℕ) : Report → Type 0 where
  refused_files : (r : Refusal) → files_refusal kind store graph ≡ Some r → Means kind store graph (report_of (Err r) 0)
  false_name : (k : ℕ) → FirstFalse kind store graph k → Means kind store graph (report_of (Err FalseName) k)
  false_sum : SumFalse kind store graph → Means kind store graph (report_of (Err FalseChecksum) 0)
  no_fault : AllTrue kind store graph → Means kind store graph (report_of (Ok tt) 0)
