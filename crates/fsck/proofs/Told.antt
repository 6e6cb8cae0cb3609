-- What a report means, both ways: 0 exactly where all is true, 16 exactly with the first false name, 17 exactly where all names are true and the
-- checksum is false. The files' own refusals are 6 at most, so none of them is taken for 16 or 17. Assumes nothing.
use Rattle.std.specs.Prelude.{Err, None, Ok, Option, Some}
use mathlib.Core.Path.{◌≡◌, refl, sym, ◌∙◌, ap}
use Prim.Native.Nat.{ℕ, ◌≤◌, ◌<◌}
use mathlib.Core.Bool.{Bool, true, false, cond, ◌||◌}
use mathlib.Core.List.{List}
use native.Mathlib.Omega.{arith}
use Rattle.hash.specs.declared.Kind.{Kind}
use Rattle.hash.proofs.Tests.{some_in, no-some}
use Rattle.odb.specs.Store.{entries, store_is_ok}
use Rattle.commitgraph.specs.Graph.{hash_version, graph_head, graph_ok}
use Rattle.walk.specs.State.{is_empty}
use Rattle.walk.specs.Opening.{Input, sizes_ok, whole_ids, refusal, width_in}
use Rattle.walk.specs.Refusals.{number_of}
use Rattle.walk.specs.declared.Refusal.{Refusal}
use Rattle.walk.specs.declared.Refusal.TheVariants.{InputTooLarge, PartialId, CorruptStore, UnknownGraph, CorruptGraph, FalseChecksum}
use Rattle.fsck.specs.declared.Report.{Report}
use Rattle.fsck.specs.Names.{true_name, first_false, sum_ok, report_of, sum_report, names_report, files_refusal, report_after, check_names, AllTrue, Means, refused_files, false_name, false_sum, no_fault}
use Rattle.fsck.proofs.Entries.{false-at, all_true, true-all, at_first}
use Rattle.fsck.proofs.Steps.{after-refused, after-fine}

-- ---- the files' own refusals

Early : Option Refusal → Type 0
Early o = (r : Refusal) → o ≡ Some r → number_of r ≤ 6

early_cond : (b : Bool) (n : Option Refusal) (q : Refusal) → Early n → number_of q ≤ 6 → Early (cond b n (Some q))
unfolding Early
early_cond true n q f h r e = f r e
early_cond false n q f h r e = let p : q ≡ r = some_in e in ap-le p h
  where
    ap-le : {a b : Refusal} → a ≡ b → number_of a ≤ 6 → number_of b ≤ 6
    ap-le p h = mathlib.Core.Path.subst (λ (x : Refusal). number_of x ≤ 6) p h

pub early : (i : Input) (r : Refusal) → refusal i ≡ Some r → number_of r ≤ 6
unfolding refusal Early
early i r e =
    early_cond (sizes_ok i) _ InputTooLarge
    (early_cond (whole_ids i) _ PartialId
    (early_cond (store_is_ok (width_in i) i.store) _ CorruptStore
    (early_cond (is_empty i.graph || graph_head (hash_version i.settings.kind) i.graph) _ UnknownGraph
    (early_cond (is_empty i.graph || graph_ok (width_in i) i.graph) None CorruptGraph (λ q d. no-some d) (omega arith))
    (omega arith))
    (omega arith))
    (omega arith))
    (omega arith) r e

-- ---- a report is right

module _ (kind : Kind) (s g : List ℕ) (f : files_refusal kind s g ≡ None) where
  means-sum : ((k : ℕ) → k < entries s → true_name kind s k ≡ true) → (b : Bool) → sum_ok kind g ≡ b → Means kind s g (sum_report kind g)
  unfolding sum_report
  means-sum a true e = rw e (no_fault (record { laid_out = f; names = a; checksum = e }))
  means-sum a false e = rw e (false_sum (record { laid_out = f; names = a; checksum = e }))

  means-names : (o : Option ℕ) → first_false kind s 0 (entries s) ≡ o → Means kind s g (names_report kind g o)
  unfolding names_report
  means-names None e = means-sum (λ k h. all_true kind s (entries s) 0 e k (omega arith) (omega arith)) (sum_ok kind g) refl
  means-names (Some k) e =
      let t = false-at kind s (entries s) 0 k e in
      false_name k (record { laid_out = f; entry = omega (arith, t.1); not_its = t.2; before_it = λ j h. t.3 j (omega arith) h })

means_after : (kind : Kind) (s g : List ℕ) (o : Option Refusal) → files_refusal kind s g ≡ o → Means kind s g (report_after kind s g o)
unfolding report_after
means_after kind s g None e = means-names kind s g e (first_false kind s 0 (entries s)) refl
means_after kind s g (Some r) e = refused_files r e

pub means : (kind : Kind) (s g : List ℕ) → Means kind s g (check_names kind s g)
unfolding check_names
means kind s g = means_after kind s g (files_refusal kind s g) refl

-- ---- and no other report is

module _ (kind : Kind) (s g : List ℕ) where
  names-none : ((k : ℕ) → k < entries s → true_name kind s k ≡ true) → first_false kind s 0 (entries s) ≡ None
  names-none a = true-all kind s (entries s) 0 (λ k h l. a k (omega arith))

  pub reports : (r : Report) → Means kind s g r → check_names kind s g ≡ r
  unfolding names_report sum_report
  reports _ (refused_files r e) = after-refused kind s g r e
  reports _ (false_name k c) =
      after-fine kind s g c.laid_out
      ∙ ap (names_report kind g) (at_first kind s (entries s) 0 k (omega arith) (omega (arith, c.entry)) c.not_its (λ j h l. c.before_it j l))
  reports _ (false_sum c) = after-fine kind s g c.laid_out ∙ ap (names_report kind g) (names-none c.names) ∙ ap (λ (b : Bool). cond b (report_of (Ok tt) 0) (report_of (Err FalseChecksum) 0)) c.checksum
  reports _ (no_fault c) = after-fine kind s g c.laid_out ∙ ap (names_report kind g) (names-none c.names) ∙ ap (λ (b : Bool). cond b (report_of (Ok tt) 0) (report_of (Err FalseChecksum) 0)) c.checksum

  -- ---- by the outcome alone

  -- no fault exactly where every name and the checksum are true
  fine_of : (r : Report) → Means kind s g r → r.outcome ≡ (Ok tt) → AllTrue kind s g
  fine_of _ (refused_files r e) h = let z : ◌≡◌ {A = ℕ} 0 1 = cc in absurd (omega arith)
  fine_of _ (false_name k c) h = let z : ◌≡◌ {A = ℕ} 0 1 = cc in absurd (omega arith)
  fine_of _ (false_sum c) h = let z : ◌≡◌ {A = ℕ} 0 1 = cc in absurd (omega arith)
  fine_of _ (no_fault c) h = c

  pub fine-all : (check_names kind s g).outcome ≡ (Ok tt) → AllTrue kind s g
  fine-all h = fine_of (check_names kind s g) (means kind s g) h

  pub all-fine : AllTrue kind s g → check_names kind s g ≡ report_of (Ok tt) 0
  all-fine a = reports (report_of (Ok tt) 0) (no_fault a)
