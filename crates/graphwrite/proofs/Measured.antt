-- From a plan to the length of the file. Assumes nothing.
use Rattle.std.specs.Prelude.{Err, Ok, Result}
use mathlib.Core.Path.{◌≡◌, sym, ◌∙◌, ap}
use mathlib.Core.List.{List}
use Prim.Native.Nat.{ℕ}
use lib.ListN.{length}
use Rattle.odb.specs.Store.{standing_entries}
use Rattle.walk.specs.declared.Refusal.{Refusal}
use Rattle.graphfile.specs.GraphFile.{file_length}
use Rattle.graphplan.specs.Refusing.{refusal_for, Plans}
use Rattle.graphplan.specs.declared.Plan.{Plan}
use Rattle.graphplan.proofs.Planning.{plan_not, rows-planned}
use Rattle.graphwrite.specs.Writing.{length_of, length_answer, Measures}

module _ (w : ℕ) (b s s' : List ℕ) (r : Result Plan Refusal) (P : Plans w b s s' r) where
  pub measures-not : (q : Refusal) → r ≡ Err q → Measures w b s s' (Err q)
  measures-not q e =
      record { answer = ap (length_answer w b) (sym (plan_not w b (refusal_for w b (length s)) q (sym e ∙ P.answer))); spared = P.spared }

  pub measures-rows : (q : Plan) (l : ℕ) → r ≡ Ok q → l ≡ file_length w q.rows q.edges → Measures w b s s' (Ok l)
  unfolding length_of
  measures-rows q l h d =
      let p = rows-planned w b s s' r P q h in
      record {
        answer = ap Ok (d ∙ ap (λ (x : ℕ). file_length w x q.edges) p.rows ∙ ap (file_length w (standing_entries w b)) p.edges) ∙ ap (length_answer w b) (sym p.none_said);
        spared = P.spared;
      }
