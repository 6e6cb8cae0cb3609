-- The lines of the calls so far stand in the text, and what the calls left say follows them: each call says what the walk says, as the
-- memory reads as the walk's state. Assumes nothing.
use Prim.Native.Nat.{ℕ, suc, ◌-◌, ◌<◌}
use mathlib.Core.Path.{◌≡◌, refl, sym, ◌∙◌, ap, subst}
use mathlib.Core.Bool.{Bool, true, false, cond}
use mathlib.Core.List.{List, [], ◌++◌, append_assoc, append-nil}
use native.Mathlib.Omega.{arith}
use lib.ListN.{length}
use Rattle.walk.specs.State.{Walk, State}
use Rattle.hash.specs.Bytes.{Id}
use Rattle.hash.proofs.Widths.{width-most}
use Rattle.walk.specs.Reach.{Mem}
use Rattle.walk.specs.AnyInput.{handed_by}
use Rattle.walk.specs.Opening.{Input, width_in, walk_of, room_for, Opening, opened, open_walk}
use Rattle.walk.specs.Next.{Kind, end, refused, handed, Answer, next}
use Rattle.walk.specs.Calls.{state_of, state_after, answer_on, answer_at_call, calls, answers}
use Rattle.walk.specs.Given.{Given, given, outcome_of, parents_given, calls_after}
use Rattle.walk.proofs.Whole.{answers-calls}
use Rattle.opening.specs.Checks.{checked_by}
use Rattle.opening.proofs.Opened.{opens}
use Rattle.state.specs.declared.Record.{Record}
use Rattle.state.specs.Reads.{Reads}
use Rattle.state.specs.Shapes.{shape_of}
use Rattle.traverse.specs.Contract.{Files, Lent, input_with, lengths_of}
use Rattle.traverse.proofs.Wide.{answer-wide}
use Rattle.swatch.specs.declared.Turn.{Turn}
use Rattle.swatch.specs.Text.{line_of, line_given, is_end, lines_of, parents_after}
use Rattle.swatch.specs.Contract.{Puts, ListsCall, ListsCalls}
use Rattle.swatch.proofs.Puts.{puts-nothing, puts_then, puts_as}
use Rattle.swatch.proofs.Lines.{given-line}

-- ---- the first of some calls, and the others

left-kind : (k : Kind) (n : ℕ) → calls_after n (outcome_of k) ≡ cond (is_end k) 0 (n - 1)
left-kind end n = refl
left-kind (refused r) n = refl
left-kind (handed x g t) n = refl

module _ (w : Walk) (n : ℕ) (st : State) where
  -- the calls that are left after the first of n + 1 calls
  rest : List Answer
  rest = calls w (cond (is_end (next w st).answer.kind) 0 n) (next w st).state

  lines_next : lines_of (calls w (suc n) st) ≡ line_of (next w st).answer.kind (length (next w st).answer.parents) ++ lines_of rest
  unfolding lines_of calls rest
  lines_next = ap (λ (l : List ℕ). line_of (next w st).answer.kind (length (next w st).answer.parents) ++ l) (go (is_end (next w st).answer.kind))
    where
      go : (b : Bool) → cond b [] (lines_of (calls w n (next w st).state)) ≡ lines_of (calls w (cond b 0 n) (next w st).state)
      go true = refl
      go false = refl

  parents-next : (b : List ℕ) → parents_after (calls w (suc n) st) b ≡ parents_after rest (parents_given (next w st).answer b)
  unfolding parents_after calls rest
  parents-next b = go (is_end (next w st).answer.kind)
    where
      go : (e : Bool)
          → cond e (parents_given (next w st).answer b) (parents_after (calls w n (next w st).state) (parents_given (next w st).answer b))
          ≡ parents_after (calls w (cond e 0 n) (next w st).state) (parents_given (next w st).answer b)
      go true = refl
      go false = refl

-- ---- while calls are made

-- k calls are made and `left` may follow: done is put down, and the text of n calls is done and what the calls left say
pub record Listing (i : Input) (n : ℕ) (out₀ b₀ : List ℕ) (left : ℕ) (r : Record) (m : Lent) (out : List ℕ) (at : ℕ) : Type 0 where
  pub k : ℕ
  pub done : List ℕ
  pub puts : Puts out₀ 0 done out at
  pub lines : lines_of (answers i n) ≡ done ++ lines_of (calls (walk_of i) left (state_after i k))
  pub parents : parents_after (answers i n) b₀ ≡ parents_after (calls (walk_of i) left (state_after i k)) m.parents
  pub reads : Reads r m.memory (shape_of i) (state_after i k)

module _ (i : Input) (st : State) (e : open_walk i true ≡ opened st) where
  all_left : (n : ℕ) → answers i n ≡ calls (walk_of i) n (state_after i 0)
  unfolding state_after state_of
  all_left n = answers-calls i st e n ∙ ap (λ (o : Opening). calls (walk_of i) n (state_of o)) (sym e)

  answer-next : (k : ℕ) → answer_at_call i k ≡ (next (walk_of i) (state_after i k)).answer
  unfolding answer_at_call answer_on
  answer-next k = ap (answer_on (walk_of i) (state_after i k)) e

  listing_start : (n : ℕ) (out : List ℕ) (r : Record) (m : Lent) → Reads r m.memory (shape_of i) (state_after i 0) → Listing i n out m.parents n r m out 0
  listing_start n out r m h = record {
    k = 0;
    done = [];
    puts = puts-nothing out 0;
    lines = ap lines_of (all_left n);
    parents = ap (λ (l : List Answer). parents_after l m.parents) (all_left n);
    reads = h;
  }

  -- one call more
  listing-next : {n : ℕ} {out₀ b₀ : List ℕ} {left : ℕ} {r : Record} {m : Lent} {out : List ℕ} {at : ℕ} {o : Given} {q : Record} {t : Turn} {m' : Lent} {out' : List ℕ}
      → (l : Listing i n out₀ b₀ left r m out at) → 0 < left → o ≡ given (answer_at_call i l.k) → m'.parents ≡ parents_given (answer_at_call i l.k) m.parents
      → Reads q m'.memory (shape_of i) (state_after i (suc l.k)) → t.record ≡ q → t.left ≡ calls_after left o.outcome
      → Puts out at (line_given (width_in i) o.outcome o.info.id o.info.parents) out' t.at → Listing i n out₀ b₀ t.left t.record m' out' t.at
  unfolding given state_after rest
  listing-next {n} {out₀} {b₀} {left} {r} {m} {out} {at} {o} {q} {t} {m'} {out'} l h g b d s f p = record {
    k = suc l.k;
    done = l.done ++ line;
    puts = puts_then l.puts (puts_as p line-is);
    lines = l.lines ∙ ap (λ (x : List ℕ). l.done ++ x) (lines_at ∙ ap (λ (j : ℕ). line ++ lines_of (calls w j (next w reached).state)) left_is) ∙ sym (append_assoc l.done line _);
    parents = l.parents ∙ parents-at ∙ ap (λ (j : ℕ). parents_after (calls w j (next w reached).state) (parents_given a m.parents)) left_is
        ∙ ap (λ (x : List ℕ). parents_after (calls w t.left (next w reached).state) x) (ap (λ (y : Answer). parents_given y m.parents) (sym is) ∙ sym b);
    reads = subst (λ (y : Record). Reads y m'.memory (shape_of i) (state_after i (suc l.k))) (sym s) d;
  }
    where
      w : Walk
      w = walk_of i

      reached : State
      reached = state_after i l.k

      a : Answer
      a = (next w reached).answer

      line : List ℕ
      line = line_of a.kind (length a.parents)

      is : answer_at_call i l.k ≡ a
      is = answer-next l.k

      -- the id is as wide as the kind says
      wide : (x : Id) → Mem x (handed_by a.kind) → length x ≡ width_in i
      wide x d = answer-wide i l.k x (subst (λ (y : Answer). Mem x (handed_by y.kind)) (sym is) d)

      line-is : line_given (width_in i) o.outcome o.info.id o.info.parents ≡ line
      line-is = ap (λ (y : Given). line_given (width_in i) y.outcome y.info.id y.info.parents) (g ∙ ap given is) ∙ given-line (width_in i) (width-most i.settings.kind) a.kind (length a.parents) wide

      some_left : left ≡ suc (left - 1)
      some_left = omega arith

      left_is : cond (is_end a.kind) 0 (left - 1) ≡ t.left
      left_is = sym (f ∙ ap (λ (y : Given). calls_after left y.outcome) (g ∙ ap given is) ∙ left-kind a.kind left)

      lines_at : lines_of (calls w left reached) ≡ line ++ lines_of (calls w (cond (is_end a.kind) 0 (left - 1)) (next w reached).state)
      lines_at = ap (λ (j : ℕ). lines_of (calls w j reached)) some_left ∙ lines_next w (left - 1) reached

      parents-at : parents_after (calls w left reached) m.parents ≡ parents_after (calls w (cond (is_end a.kind) 0 (left - 1)) (next w reached).state) (parents_given a m.parents)
      parents-at = ap (λ (j : ℕ). parents_after (calls w j reached) m.parents) some_left ∙ parents-next w (left - 1) reached m.parents

  -- no call is left
  listing-end : {n : ℕ} {out₀ b₀ : List ℕ} {left : ℕ} {r : Record} {m : Lent} {out : List ℕ} {at : ℕ} → Listing i n out₀ b₀ left r m out at → left ≡ 0
      → Puts out₀ 0 (lines_of (answers i n)) out at × (m.parents ≡ parents_after (answers i n) b₀)
  unfolding calls lines_of parents_after
  listing-end {m = m} l z = (
    puts_as l.puts (sym (l.lines ∙ ap (λ (j : ℕ). l.done ++ lines_of (calls (walk_of i) j (state_after i l.k))) z ∙ append-nil l.done)),
    sym (l.parents ∙ ap (λ (j : ℕ). parents_after (calls (walk_of i) j (state_after i l.k)) m.parents) z),
  )

-- ---- what the loop keeps

pub record Loop (f : Files) (n : ℕ) (r₀ : Record) (m₀ : Lent) (out₀ : List ℕ) (left : ℕ) (r : Record) (m : Lent) (out : List ℕ) (at : ℕ) : Type 0 where
  pub same-lengths : lengths_of m ≡ lengths_of m₀
  pub long : length out ≡ length out₀
  pub listing : (tips : List ℕ) (st : State) → open_walk (input_with f tips) (room_for (input_with f tips) (lengths_of m₀)) ≡ opened st
      → Reads r₀ m₀.memory (shape_of (input_with f tips)) (state_after (input_with f tips) 0)
      → Listing (input_with f tips) n out₀ m₀.parents left r m out at

-- an opening is accepted only with room
pub true_open : (i : Input) (room : Bool) (st : State) → open_walk i room ≡ opened st → open_walk i true ≡ opened st
true_open i room st e = let o = opens i room (sym (ap checked_by e)) in ap (open_walk i) (sym o.has_room) ∙ e

pub loop_start : {f : Files} {n : ℕ} {r : Record} {m : Lent} {out : List ℕ} → Loop f n r m out n r m out 0
loop_start {f} {n} {r} {m} {out} = record {
  same-lengths = refl;
  long = refl;
  listing = λ tips st e h. listing_start (input_with f tips) st (true_open (input_with f tips) (room_for (input_with f tips) (lengths_of m)) st e) n out r m h;
}

pub loop_next : {f : Files} {n : ℕ} {r₀ : Record} {m₀ : Lent} {out₀ : List ℕ} {left : ℕ} {r : Record} {m : Lent} {out : List ℕ} {at : ℕ} {t : Turn} {m' : Lent} {out' : List ℕ}
    → Loop f n r₀ m₀ out₀ left r m out at → 0 < left → ListsCall f left r m out at t m' out' → Loop f n r₀ m₀ out₀ t.left t.record m' out' t.at
loop_next {f} {m₀ = m₀} {m = m} l h c = record {
  same-lengths = c.says.same-lengths ∙ l.same-lengths;
  long = c.line.same_length ∙ l.long;
  listing = λ tips st e d.
      let i = input_with f tips in
      let y = l.listing tips st e d in
      let a = c.says.opened-call tips y.k st (ap (λ (q : _). open_walk i (room_for i q)) l.same-lengths ∙ e) y.reads in
      listing-next i st (true_open i (room_for i (lengths_of m₀)) st e) y h a.0 a.1 a.2 c.same_record c.left_is c.line;
}

pub loop_end : {f : Files} {n : ℕ} {r₀ : Record} {m₀ : Lent} {out₀ : List ℕ} {left : ℕ} {r : Record} {m : Lent} {out : List ℕ} {at : ℕ}
    → Loop f n r₀ m₀ out₀ left r m out at → left ≡ 0 → ListsCalls f n r₀ m₀ out₀ m out at
loop_end {f} {m₀ = m₀} l z = record {
  same-lengths = l.same-lengths;
  long = l.long;
  listed = λ tips st e h. listing-end (input_with f tips) st (true_open (input_with f tips) (room_for (input_with f tips) (lengths_of m₀)) st e) (l.listing tips st e h) z;
}
