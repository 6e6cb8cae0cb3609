-- From the search over n entries to the search over a store: n is the store's own number, and ids rise in a good store. Assumes nothing.
use Rattle.std.specs.Prelude.{Result, Ok, Err}
use mathlib.Core.Path.{◌≡◌, refl, sym, ◌∙◌, ap, subst}
use mathlib.Core.Bool.{Bool, true, false, cond}
use mathlib.Core.List.{List}
use Prim.Native.Nat.{ℕ}
use native.Mathlib.Omega.{arith}
use lib.ListN.{length}
use lib.Dec.{ltb}
use Rattle.hash.specs.Bytes.{pick}
use Rattle.idlist.specs.IdList.{rising}
use Rattle.odb.specs.Store.{entry_ids, standing_entries, store_is_ok}
use Rattle.odb.specs.Lookup.{ids_rise}
use Rattle.odb.proofs.Store.{good, good-count}
use Rattle.levels.specs.Levels.{fit}
use Rattle.levels.specs.Search.{Levels, answer_of, most_nodes}
use Rattle.levels.specs.StoreGraph.{store_graph, graph_in, store_answer, StoreLevels}
use Rattle.levels.specs.declared.LevelsError.{LevelsError}
use Rattle.levels.specs.declared.LevelsError.TheVariants.{NoLevels, Short, Torn}

pub good-rises : (w : ℕ) (b : List ℕ) → store_is_ok w b ≡ true → ids_rise w b ≡ true
good-rises w b e = subst (λ (n : ℕ). rising (entry_ids w b) n ≡ true) (sym (good-count w b e)) (good w b e).rises

pub torn-store : (w : ℕ) (b s : List ℕ) → store_is_ok w b ≡ false → StoreLevels w b s s (Err Torn)
unfolding store_answer
torn-store w b s e =
    record {
      answer = rw e;
      levels = λ z. let y : ◌≡◌ {A = ℕ} 0 1 = cc in absurd (omega arith);
      kept = λ k h. refl;
      short = λ z. refl;
      torn = λ z. refl;
    }

never-torn : (a b c : Bool) → ◌≡◌ {A = Result (Unit {0}) LevelsError} (cond a (Err Short) (cond b (Err Short) (cond c (Ok tt) (Err NoLevels)))) (Err Torn) → ⊥
never-torn true b c e = let y : ◌≡◌ {A = ℕ} 0 1 = cc in absurd (omega arith)
never-torn false true c e = let y : ◌≡◌ {A = ℕ} 0 1 = cc in absurd (omega arith)
never-torn false false true e = let y : ◌≡◌ {A = ℕ} 0 1 = cc in absurd (omega arith)
never-torn false false false e = let y : ◌≡◌ {A = ℕ} 0 1 = cc in absurd (omega arith)

pub good-store : (w : ℕ) (b s s' : List ℕ) (n : ℕ) (r : Result (Unit {0}) LevelsError) → store_is_ok w b ≡ true → n ≡ standing_entries w b → Levels (store_graph w b n) s s' r → StoreLevels w b s s' r
unfolding store_answer answer_of
good-store w b s s' n r ok e l =
    let m : Levels (graph_in w b) s s' r = subst (λ (k : ℕ). Levels (store_graph w b k) s s' r) e l in
    record {
      answer = m.answer ∙ sym (ap (λ (t : Bool). pick t (answer_of (graph_in w b) (length s)) (Err Torn)) ok);
      levels = m.levels;
      kept = m.kept;
      short = m.short;
      torn = λ z. absurd (never-torn (ltb (length s) (standing_entries w b)) (ltb most_nodes (standing_entries w b)) (fit (graph_in w b)) (sym m.answer ∙ z));
    }
