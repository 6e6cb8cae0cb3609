-- An opening and its calls put down the text: the line of the refusal, or the lines of the calls. Assumes nothing.
use Rattle.std.specs.Prelude.{Err, Ok}
use Prim.Native.Nat.{ℕ, ◌+◌, ◌/◌, ◌≤◌}
use mathlib.Core.Path.{◌≡◌, refl, sym, ◌∙◌, ap, subst, subst₂}
use mathlib.Core.List.{List, []}
use native.Mathlib.Omega.{arith}
use lib.ListN.{length}
use Rattle.commitgraph.specs.Graph.{graph_count}
use Rattle.walk.specs.declared.Settings.{Settings}
use Rattle.walk.specs.declared.Refusal.{Refusal}
use Rattle.walk.specs.declared.OpenAnswer.{OpenAnswer}
use Rattle.walk.specs.State.{State}
use Rattle.walk.specs.Opening.{Input, Lengths, P, room_for, Opening, closed, opened, open_walk}
use Rattle.walk.specs.Calls.{answers}
use Rattle.walk.specs.Given.{open_given}
use Rattle.opening.specs.Checks.{input_of}
use Rattle.state.specs.declared.Record.{Record}
use Rattle.traverse.specs.declared.Opened.{Opened}
use Rattle.traverse.specs.Contract.{Lent, lengths_of, OpenSays}
use Rattle.traverse.specs.Next.{files_lent}
use Rattle.traverse.specs.Demand.{files_of}
use Rattle.swatch.specs.Text.{refusal_line, lines_of, parents_after, breadth_all, text_of, parents_of}
use Rattle.swatch.specs.Contract.{Puts, ListsCalls, ListsStore}
use Rattle.swatch.proofs.Puts.{puts_as}

is-closed : (w : Opening) {r : Refusal} → (open_given w).outcome ≡ Err r → w ≡ closed r
unfolding open_given
is-closed (closed q) e = cc
is-closed (opened st) e = let z : ◌≡◌ {A = ℕ} 0 1 = cc in absurd (omega arith)

is-opened : (w : Opening) → (open_given w).outcome ≡ (Ok tt) → (st : State) × (w ≡ opened st)
unfolding open_given
is-opened (closed q) e = let z : ◌≡◌ {A = ℕ} 0 1 = cc in absurd (omega arith)
is-opened (opened st) e = (st, refl)

not-closed {ℓ} : {X : Type ℓ} {w : Opening} {st : State} {r : Refusal} → w ≡ opened st → w ≡ closed r → X
not-closed e f = let z : ◌≡◌ {A = ℕ} 0 1 = cc in absurd (omega arith)

module _ {i : Input} {m : Lent} {o : Opened} {m₁ : Lent} (s : OpenSays i m o m₁) where
  outcome-is : o.answer.outcome ≡ (open_given (open_walk i (room_for i (lengths_of m)))).outcome
  outcome-is = ap (λ (a : OpenAnswer). a.outcome) s.answer

  pub store-refused : {r : Refusal} {out out' : List ℕ} {a : ℕ} → o.answer.outcome ≡ Err r → Puts out 0 (refusal_line r) out' a → ListsStore i m out m₁ out' a
  unfolding text_of parents_of
  store-refused {r} e p =
      let w : open_walk i (room_for i (lengths_of m)) ≡ closed r = is-closed _ (sym outcome-is ∙ e) in
      record {
        same-lengths = s.same-lengths;
        listed = puts_as p (sym (ap (text_of i) w));
        parents = s.same-parents ∙ sym (ap (λ (q : Opening). parents_of i q m.parents) w);
        refused_open = λ q k. (s.refused_open q k).1;
      }

  pub store-accepted : {out out' : List ℕ} {m' : Lent} {n a : ℕ} → o.answer.outcome ≡ (Ok tt) → n ≡ P i + 2 → ListsCalls (files_of i) n o.record m₁ out m' out' a → ListsStore i m out m' out' a
  unfolding text_of parents_of
  store-accepted {out} {out'} {m'} {n} {a} e z c =
      let w = is-opened (open_walk i (room_for i (lengths_of m))) (sym outcome-is ∙ e) in
      let d = c.listed i.tips w.0 (ap (λ (q : Lengths). open_walk i (room_for i q)) s.same-lengths ∙ w.1) (s.accepted_open w.0 w.1) in
      record {
        same-lengths = c.same-lengths ∙ s.same-lengths;
        listed = puts_as d.0 (ap (λ (k : ℕ). lines_of (answers i k)) z ∙ sym (ap (text_of i) w.1));
        parents = d.1 ∙ ap (λ (k : ℕ). parents_after (answers i k) m₁.parents) z ∙ ap (parents_after (answers i (P i + 2))) s.same-parents ∙ sym (ap (λ (q : Opening). parents_of i q m.parents) w.1);
        refused_open = λ q k. not-closed w.1 k;
      }

-- ---- with no graph file, hidden tips or excluded ids

pub no_lists_open : {store none tips : List ℕ} {s : Settings} {m m₁ : Lent} {o : Opened} → none ≡ [] → s ≡ breadth_all
    → OpenSays (input_of store none tips none none s) m o m₁ → OpenSays (input_of store [] tips [] [] breadth_all) m o m₁
no_lists_open {store} {tips = tips} {m = m} {m₁} {o} e f h = subst₂ (λ (l : List ℕ) (q : Settings). OpenSays (input_of store l tips l l q) m o m₁) e f h

pub no_lists_calls : {store none : List ℕ} {n a : ℕ} {r : Record} {m m' : Lent} {out out' : List ℕ} → none ≡ []
    → ListsCalls (files_lent store none none none breadth_all) n r m out m' out' a → ListsCalls (files_lent store [] [] [] breadth_all) n r m out m' out' a
no_lists_calls {store} {n = n} {a} {r} {m} {m'} {out} {out'} e h = subst (λ (l : List ℕ). ListsCalls (files_lent store l l l breadth_all) n r m out m' out' a) e h

pub no_lists_places : {none : List ℕ} (store tips : List ℕ) → none ≡ [] → P (input_of store none tips none [] breadth_all) ≡ P (input_of store [] tips [] [] breadth_all)
no_lists_places store tips e = ap (λ (l : List ℕ). P (input_of store l tips l [] breadth_all)) e

-- P is then small
pub few-places : (store tips : List ℕ) → P (input_of store [] tips [] [] breadth_all) ≤ length tips / 20 + length store / 48
unfolding P graph_count
few-places store tips = omega arith
