-- The parents of a row, visited one after the other, are the walk's own visits of its list; the list is judged before the first of them.
-- Assumes nothing.
use Rattle.std.specs.Prelude.{None, Option, Some}
use mathlib.Core.Path.{◌≡◌, refl, sym, ap, ◌∙◌, subst}
use Prim.Native.Nat.{ℕ, suc, ◌+◌, ◌*◌, ◌≤◌, ◌<◌}
use mathlib.Core.Bool.{true, false}
use mathlib.Core.List.{List, [], ◌∷◌}
use native.Mathlib.Omega.{arith}
use lib.ListN.{length, take, drop, get_or, length-take}
use lib.Seq.{length-take-le, take-suc}
use lib.IntN.{ℤ, pos}
use Rattle.hash.specs.Bytes.{Id, at, set_down, width_of}
use Rattle.object.specs.Header.{most}
use Rattle.commitgraph.specs.Graph.{graph_ok, graph_parents, layout_of, id_in, seconds_in, parent_in, parents_in}
use Rattle.commitgraph.specs.declared.Layout.{Layout}
use Rattle.commitgraph.specs.declared.Level.{Level}
use Rattle.walk.specs.declared.Settings.{Settings}
use Rattle.walk.specs.Settings.{only_first}
use Rattle.walk.specs.Lookup.{row, row_at}
use Rattle.reading.specs.Row.{row_with, level_of, row_read_of}
use Rattle.reading.specs.declared.row.RowRead.{RowRead}
use Rattle.reading.proofs.Bodies.{followed-one, followed-all}
use Rattle.reading.proofs.Down.{set_down-past}
use Rattle.reading.proofs.Rows.{parent-there, row-few, row-width}
use Rattle.state.specs.declared.Record.{Record}
use Rattle.state.specs.declared.Waiting.{Waiting}
use Rattle.state.specs.Shapes.{waiting_in}
use Rattle.state.specs.Reads.{Memory}
use Rattle.links.specs.Link.{Visits}
use Rattle.links.specs.Visits.{Past}
use Rattle.links.proofs.Visits.{past-none, past_next, Run, run-start, run-next}
use Rattle.rowvisit.specs.Row.{visited, Follows, SetsParent, VisitsRowParent, VisitsRow, VisitedBy, VisitsCached}

-- ---- one id is set down

pub parent_set : {width : ℕ} {k : ℕ} {x b b' : List ℕ} → length x ≤ width → b' ≡ set_down b (width * k) x → SetsParent width k x b b'
parent_set {width} {k} {x} {b} h e = record {
  down = λ i n. e;
  past = record { same = λ j i. ap (λ (l : List ℕ). get_or l j 0) e ∙ set_down-past b (width * k) x j (omega arith) };
}

-- a parent past the most, or an id that does not fit its place
pub parent-left : {width : ℕ} {k : ℕ} {x b : List ℕ} → (k < most → length x ≤ width → ⊥) → SetsParent width k x b b
parent-left f = record { down = λ i n. absurd (f i n); past = past-none }

-- the id of a row's parent has at most an id's bytes, whatever the file holds
pub row_narrow : (width : ℕ) (g : List ℕ) (p : ℕ) (ps : List (Id × ℤ)) (v : ℕ) (t : ℤ) → row_at width g p ≡ row ps v t → (k : ℕ) → k < length ps → length (get_or ps k ([], pos 0)).0 ≤ width
unfolding id_in at graph_parents
row_narrow width g p ps v t e k h =
    let q : ℕ = parent_in width g (layout_of width g) p k in
    let there = parent-there width g p ps v t e {l = layout_of width g} {k = k} {q = parent_in width g (layout_of width g) p k} refl refl h in
    omega (arith, ap (λ (a : Id × ℤ). length a.0) there, length-take width (drop ((layout_of width g).ids + width * q) g))

-- ---- the parents of a row

-- q is the position that the row lists as its k-th parent
pub row-parent : {excluded : List ℕ} {settings : Settings} {g : List ℕ} {l : Layout} {p k q : ℕ} {r r' : Record} {m m' : Memory} {b b' : List ℕ} {y : Id}
    → q ≡ parent_in (width_of settings.kind) g l p k → y ≡ id_in (width_of settings.kind) g l q → SetsParent (width_of settings.kind) k y b b' → Visits excluded settings r m m' y (seconds_in (width_of settings.kind) g l q) r'
    → VisitsRowParent excluded settings g l p k r m m' b b' r'
row-parent {excluded} {settings} {g} {l} {p} {k} {q} {r} {r'} {m} {m'} {b} {b'} {y} read i d v = record {
  right = λ own ps u w e h.
      let z = parent-there (width_of settings.kind) g p ps u w e own read h in
      let x : y ≡ (get_or ps k ([], pos 0)).0 = i ∙ ap (λ (a : Id × ℤ). a.0) z in (
        subst (λ (a : Id × ℤ). Visits excluded settings r m m' a.0 a.1 r') z (subst (λ (j : Id). Visits excluded settings r m m' j (seconds_in (width_of settings.kind) g l q) r') i v),
        d.down (omega (arith, h, row-few (width_of settings.kind) g p ps u w e)) (omega (arith, ap length x, row_narrow (width_of settings.kind) g p ps u w e k h)) ∙ ap (set_down b (width_of settings.kind * k)) x,
      );
  past = d.past;
}

-- after k parents of the row at position p
pub record RowRun (excluded : List ℕ) (settings : Settings) (g : List ℕ) (l : Layout) (p k : ℕ) (r : Record) (m m' : Memory) (b b' : List ℕ) (r' : Record) : Type 0 where
  pub right : graph_ok (width_of settings.kind) g ≡ true → l ≡ layout_of (width_of settings.kind) g → (ps : List (Id × ℤ)) (v : ℕ) (t : ℤ) → row_at (width_of settings.kind) g p ≡ row ps v t → k ≤ length ps → Run excluded settings r m m' b b' (take k ps) r'
  pub past : Past (width_of settings.kind) k b b'

module _ {excluded : List ℕ} {settings : Settings} {g : List ℕ} {l : Layout} {p : ℕ} {r : Record} {m : Memory} {b : List ℕ} where
  pub row-start : RowRun excluded settings g l p 0 r m m b b r
  row-start = record { right = λ ok own ps v t e h. run-start; past = past-none }

  pub row_next : {k : ℕ} {r' r'' : Record} {m' m'' : Memory} {b' b'' : List ℕ} → RowRun excluded settings g l p k r m m' b b' r' → VisitsRowParent excluded settings g l p k r' m' m'' b' b'' r''
      → RowRun excluded settings g l p (k + 1) r m m'' b b'' r''
  row_next {k} run one = record {
    right = λ ok own ps v t e h.
        let s : k < length ps = omega (arith, h) in
        let n : k + 1 ≡ suc k = omega arith in
        let w = one.right own ps v t e s in
        run-next (take (k + 1) ps) (get_or ps k ([], pos 0)) k (ap (λ (j : ℕ). take j ps) n ∙ take-suc ps k ([], pos 0) s) (length-take-le k ps (omega arith))
        (omega (arith, s, row-few (width_of settings.kind) g p ps v t e)) (row-width (width_of settings.kind) g p ps v t e ok k s) (run.right ok own ps v t e (omega arith)) w.0 w.1;
    past = past_next run.past one.past;
  }

  pub row_done : {k n : ℕ} {r' : Record} {m' : Memory} {b' : List ℕ} → RowRun excluded settings g l p k r m m' b b' r' → k ≡ n → VisitsRow excluded settings g l p n r m m' b b' r'
  row_done {k} {n} {r'} {m'} {b'} run e =
      subst (λ (j : ℕ). VisitsRow excluded settings g l p j r m m' b b' r') e (record { right = λ ok own ps v t q h. (run.right ok own ps v t q h).all; past = run.past })

-- ---- how many parents are followed

pub follows_one : {settings : Settings} {n : ℕ} → only_first settings ≡ true → 1 < n → Follows settings n 1
follows_one {settings} {n} o h = record { right = λ ps e. go ps (omega (arith, e)) ∙ ap length (sym (followed-one settings ps o)); few = omega arith }
  where
    go : (ps : List (Id × ℤ)) → 1 < length ps → 1 ≡ length (take 1 ps)
    go [] k = absurd (omega arith)
    go (p ∷ ps) k = refl

pub follows_few : {settings : Settings} {n : ℕ} → only_first settings ≡ true → n ≤ 1 → Follows settings n n
follows_few {settings} {n} o h = record { right = λ ps e. e ∙ go ps (omega (arith, e)) ∙ ap length (sym (followed-one settings ps o)); few = omega arith }
  where
    go : (ps : List (Id × ℤ)) → length ps ≤ 1 → length ps ≡ length (take 1 ps)
    go [] k = refl
    go (p ∷ []) k = refl
    go (p ∷ (q ∷ ps)) k = absurd (omega arith)

pub follows_all : {settings : Settings} {n : ℕ} → only_first settings ≡ false → Follows settings n n
follows_all {settings} o = record { right = λ ps e. e ∙ ap length (sym (followed-all settings ps o)); few = omega arith }

-- ---- the list is judged

module _ {excluded : List ℕ} {settings : Settings} {g : List ℕ} {l : Layout} {p : ℕ} {r : Record} {w : Waiting} {m : Memory} {v b : List ℕ} {z : Option RowRead} (read : z ≡ row_read_of (level_of (width_of settings.kind) g l p) (parents_in (width_of settings.kind) g l p)) where
  pub judged-good : {m' : Memory} {v' b' : List ℕ} {w' : Waiting} {n k : ℕ} {c : Level} → z ≡ Some (row_with n c) → Follows settings n k → VisitsRow excluded settings g l p k (waiting_in r w) m m' b b' (waiting_in r w')
      → VisitsCached excluded settings g l p r w m m' v v' b b' (Some (visited w' k c))
  judged-good {m'} {v'} {b'} {w'} {n} {k} {c} e f d =
      record { judged = subst (λ (z : Option RowRead). VisitedBy z excluded settings g l p r w m m' v v' b b' (Some (visited w' k c))) (sym e ∙ read) (k, w', refl, f, d) }

  pub judged-corrupt : z ≡ None → VisitsCached excluded settings g l p r w m m v v b b None
  judged-corrupt e = record { judged = subst (λ (z : Option RowRead). VisitedBy z excluded settings g l p r w m m v v b b None) (sym e ∙ read) (refl, refl, refl, refl) }
