-- The parents of a commit that was read before, found again: in good files what is found is what the walk's world has, and the parent lines
-- of a body that is readable are its parents. So their number and each of them are right, whatever pair an answer has. Assumes nothing.
use Rattle.object.specs.declared.HeaderError.TheVariants.{Bad, Crowded}
use Rattle.std.specs.Prelude.{None, Option, Some, Err, Ok}
use Rattle.commitgraph.specs.declared.Layout.{Layout}
use mathlib.Core.Path.{◌≡◌, refl, sym, ◌∙◌, ap, subst}
use Prim.Native.Nat.{ℕ}
use mathlib.Core.Bool.{Bool, true, false}
use mathlib.Core.List.{List, []}
use native.Mathlib.Omega.{arith}
use lib.ListN.{length, get_or}
use Rattle.hash.specs.Bytes.{Id, pick}
use Rattle.date.specs.declared.Stamp.{Stamp}
use Rattle.object.specs.Header.{Header, header, Stamped}
use Rattle.object.specs.Read.{read_as, stamp_in, reading_of, Reading, readable_as}
use Rattle.object.specs.declared.ObjectId.{ObjectId}
use Rattle.object.proofs.Headers.{header_lines}
use Rattle.odb.specs.Lookup.{part_of}
use Rattle.odb.specs.declared.Located.TheVariants.{Body as BodyAt}
use Rattle.commitgraph.specs.Graph.{parents_in}
use Rattle.commit.specs.Find.{FindsCommit}
use Rattle.commit.specs.declared.Either.{Either}
use Rattle.commit.specs.declared.Either.TheVariants.{CachedCommit, CommitRefIter, Absent}
use Rattle.walk.specs.Lookup.{Pair, Read, fail, good, read, parents_of}
use Rattle.walk.specs.declared.GenThenTime.{GenThenTime}
use Rattle.walk.specs.declared.Refusal.{Refusal}
use Rattle.reading.specs.Files.{layout_under, world_under}
use Rattle.reading.specs.Whole.{pair_in, row_commit, body_commit, Has, IsRead, parent_count, commit_at, GivesParent}
use Rattle.reading.specs.declared.Commit.{Commit}
use Rattle.reading.specs.declared.Commit.TheVariants.{Row, Body}
use Rattle.reading.proofs.Whole.{commit-right, commit_parent_right}
use Rattle.frontier.specs.Paint.{Files}
use Rattle.frontier.specs.Parents.{no_pair, lines_in, parents_at, ReadsParents, HasParents}

-- how many parents a reading has
so-many : Reading → ℕ
so-many (Ok r) = r.parents
so-many (Err e) = 0

-- a header that is readable has a good tree line, and so many parents
counts : (h : Header) (n : ℕ) (s : Stamp) → reading_of h ≡ readable_as n s → (h.tree ≡ true) × (length h.ids ≡ n)
unfolding reading_of so-many
counts h n s e = go h.tree h.crowded h.author (stamp_in h) refl e
  where
    go : (t c u : Bool) (o : Option Stamped) → h.tree ≡ t → pick t (pick c (Err Crowded) (pick u (read_as (length h.ids) o) (Err Bad))) (Err Bad) ≡ readable_as n s → (h.tree ≡ true) × (length h.ids ≡ n)
    go false c u o k f = let z : ◌≡◌ {A = ℕ} 0 1 = cc in absurd (omega arith)
    go true true u o k f = let z : ◌≡◌ {A = ℕ} 0 1 = cc in absurd (omega arith)
    go true false false o k f = let z : ◌≡◌ {A = ℕ} 0 1 = cc in absurd (omega arith)
    go true false true None k f = let z : ◌≡◌ {A = ℕ} 0 1 = cc in absurd (omega arith)
    go true false true (Some d) k f = (k, ap so-many f)

lines_are : (w : ℕ) (b : List ℕ) (n : ℕ) (s : Stamp) → reading_of (header w b) ≡ readable_as n s → lines_in w b ≡ n
lines_are w b n s e = let k = counts (header w b) n s e in sym (ap length (header_lines w b k.0).run) ∙ k.1

-- a commit that was read is not told as one that cannot be read
not-both : {d : Read} {n : Refusal} {ps : List Id} {q : Pair} → d ≡ fail n → d ≡ good ps q → ⊥
not-both e k = let j = sym e ∙ k in let z : ◌≡◌ {A = ℕ} 0 1 = cc in omega arith

module _ {w : ℕ} {c : Option Layout} {g s : List ℕ} {x : Id} (f : Files w c g s) where
  -- an answer d that gives the parents of e, which is what is read of x
  from-read : {n : ℕ} {q : GenThenTime} (d e : Commit) → IsRead w c g s x e → Has n q (read (world_under w c g s) x) → parent_count d ≡ n
      → ((k : ℕ) (r : ObjectId) → GivesParent w c g s d k r → GivesParent w c g s e k r) → HasParents w c g s x d
  unfolding parents_of
  from-read d e i h z same = record {
    count = z ∙ h.count ∙ sym (ap (λ (o : Read). length (parents_of o)) h.is);
    each = λ k r l v.
        commit_parent_right f.small (same k r v) f.store_ok f.graph-ok x i h.parents _ h.is (omega (arith, h.count, z)) ∙ sym (ap (λ (o : Read). get_or (parents_of o) k []) h.is);
  }

  module _ {ps : List Id} {q : Pair} (known : read (world_under w c g s) x ≡ good ps q) where
    of_row : (p : ℕ) (v : GenThenTime) (o : Option (List ℕ)) → IsRead w c g s x (row_commit p v o) → HasParents w c g s x (row_commit p no_pair o)
    of_row p v None i = absurd (not-both i.tells known)
    of_row p v (Some qs) i = from-read (Row p (length qs) no_pair) (Row p (length qs) v) i i.tells refl (λ k r m. record { is = m.is })

    of-body : (a e : ℕ) (o : Reading) → reading_of (header w (part_of s (BodyAt a e))) ≡ o → IsRead w c g s x (body_commit a e o) → HasParents w c g s x (Body a e (lines_in w (part_of s (BodyAt a e))) no_pair)
    of-body a e (Ok r) z i =
        from-read (Body a e (lines_in w (part_of s (BodyAt a e))) no_pair) (body_commit a e (Ok r)) i i.tells (lines_are w (part_of s (BodyAt a e)) r.parents r.stamp z) (λ k r m. record { is = m.is })
    of-body a e (Err Bad) z i = absurd (not-both i.tells known)
    of-body a e (Err Crowded) z i = absurd (not-both i.tells known)

    of-found : (e : Either) → IsRead w c g s x (commit_at w c g s e) → HasParents w c g s x (parents_at w c g s e)
    of-found (CachedCommit p a b) i = of_row p (pair_in w g (layout_under c) p) (parents_in w g (layout_under c) p) i
    of-found (CommitRefIter a b) i = of-body a b (reading_of (header w (part_of s (BodyAt a b)))) refl i
    of-found Absent i = absurd (not-both i.tells known)

    pub has-parents : {d : Commit} → ReadsParents w c g s x d → HasParents w c g s x d
    has-parents r = subst (HasParents w c g s x) (sym r.is) (of-found r.found (commit-right (record { found = r.found; finds = r.finds; is = refl }) f.store_ok f.graph-ok))

-- ---- what `find` found

pub found-again : {w : ℕ} {c : Option Layout} {g s : List ℕ} {x : Id} {e : Either} {r : Commit} (d : Either) → FindsCommit w c g s x e → e ≡ d → r ≡ parents_at w c g s d → ReadsParents w c g s x r
found-again {w} {c} {g} {s} {x} d k i e = record { found = d; finds = subst (FindsCommit w c g s x) i k; is = e }

-- the commit of a body that is given by its bytes
pub body_lines : (w : ℕ) {r : Commit} (a e : ℕ) {b d : List ℕ} → r ≡ Body a e (lines_in w b) no_pair → b ≡ d → r ≡ Body a e (lines_in w d) no_pair
body_lines w a e p f = p ∙ ap (λ (c : List ℕ). Body a e (lines_in w c) no_pair) f
