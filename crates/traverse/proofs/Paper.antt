-- An answer on any bytes is one of document 01's: its model has the answer's own fields, and as parents the ids at the start of the buffer after it, for
-- past them the buffer is as it was. Assumes nothing.
use Rattle.std.specs.Prelude.{None, Option, Some}
use Rattle.commitgraph.specs.declared.Level.{Level}
use Rattle.date.specs.declared.Seconds.{Seconds}
use mathlib.Core.Path.{◌≡◌, refl, sym, ◌∙◌, ap, subst}
use mathlib.Core.Logic.{inl, inr}
use Prim.Native.Nat.{ℕ, zero, suc, ◌+◌, ◌*◌, ◌/◌, ◌≤◌, ◌<◌}
use mathlib.Core.List.Memᴰ
use mathlib.Core.List.{List, [], ◌∷◌, ◌++◌}
use native.Mathlib.Omega.{arith}
use native.Mathlib.Nat.{mul-zero, mul-suc, mul_comm, mul-div_left}
use lib.ListN.{length, take, drop, get_or, length-drop, take-append-drop}
use lib.Seq.{length-take-le, take-length, take-add, get_or-drop, ext_get_or}
use lib.IntN.{ℤ}
use Rattle.hash.proofs.Widths.{in_all}
use Rattle.hash.specs.Bytes.{Id, set_down, ids_of}
use Rattle.hash.proofs.Bytes.{set_down-fits}
use Rattle.walk.specs.declared.Refusal.{Refusal}
use Rattle.walk.specs.declared.Refusal.TheVariants.{CommitNotFound, TooManyParents, Closed}
use Rattle.walk.specs.declared.Outcome.{Outcome}
use Rattle.walk.specs.declared.Outcome.TheVariants.{Commit, End, Refused}
use Rattle.walk.specs.Opening.{list_ids}
use Rattle.walk.specs.Next.{Kind, end, refused, handed, Answer}
use Rattle.walk.specs.Calls.{shut}
use Rattle.walk.specs.AnyInput.{OfCall}
use Rattle.walk.specs.Given.{Given, outcome_of, no_id, id_of_kind, level_given, seconds_given, level_of_kind, seconds_of_kind, given, joined, parents_given}
use Rattle.walk.proofs.Whole.{length_list}
use Rattle.walk.proofs.Width.{list-wide}
use Rattle.state.specs.declared.Record.{Record}
use Rattle.visit.specs.Taking.{gave}
use Rattle.visit.specs.Plain.{Bare, Counted, ShapedBy, Plain}
use Rattle.reading.proofs.Down.{set_down-none}
use Rattle.traverse.specs.Contract.{closed_answer, OfPaper}

-- ---- the ids of a list, end to end

-- so many ids are so many
many-ids : (w n : ℕ) → 0 < w → w * n / w ≡ n
many-ids w n h = ap (λ (k : ℕ). k / w) (mul_comm w n) ∙ mul-div_left n h

joined-cut : (width n : ℕ) (b : List ℕ) → joined (ids_of width n b) ≡ take (width * n) b
unfolding joined ids_of
joined-cut width zero b = ap (λ (k : ℕ). take k b) (sym (mul-zero width))
joined-cut width (suc n) b =
    let e : width * suc n ≡ width + width * n = omega (arith, mul-suc width n) in
    ap (λ (l : List ℕ). take width b ++ l) (joined-cut width n (drop width b)) ∙ sym (take-add width (width * n) b) ∙ ap (λ (k : ℕ). take k b) (sym e)

joined-list : (width : ℕ) → 0 < width → (b : List ℕ) (n : ℕ) → length b ≡ width * n → joined (list_ids width b) ≡ b
unfolding list_ids
joined-list width some_bytes b n h =
    let e : width * (length b / width) ≡ length b = ap (λ (k : ℕ). width * (k / width)) h ∙ ap (λ (k : ℕ). width * k) (many-ids width n some_bytes) ∙ sym h in
    joined-cut width (length b / width) b ∙ ap (λ (k : ℕ). take k b) e ∙ take-length b

-- ---- the buffer

module _ (b b' : List ℕ) (n : ℕ) (l : length b' ≡ length b) (h : n ≤ length b) (p : (k : ℕ) → n ≤ k → get_or b' k 0 ≡ get_or b k 0) where
  same-past : drop n b ≡ drop n b'
  same-past = ext_get_or 0 (drop n b) (drop n b') (simp length-drop (omega (arith, l))) (λ k i. get_or-drop n b k 0 ∙ sym (p (n + k) (omega arith)) ∙ sym (get_or-drop n b' k 0))

  -- what stands at the start of the buffer was set down there
  was-set-down : b' ≡ set_down b 0 (take n b')
  was-set-down =
      let e : length (take n b') ≡ n = length-take-le n b' (omega (arith, l)) in
      let z : 0 + length (take n b') ≡ n = omega (arith, e) in
      sym (set_down-fits b 0 (take n b') (omega (arith, e)) ∙ ap (λ (k : ℕ). take n b' ++ drop k b) z ∙ ap (λ (q : List ℕ). take n b' ++ q) same-past ∙ take-append-drop n b')

-- ---- the model of an answer

abbrev level_in : Option Level → Option ℕ
level_in (Some l) = Some l.0
level_in None = None

level_in_lem : (l : Option Level) → l ≡ level_given (level_in l)
level_in_lem (Some l) = refl
level_in_lem None = refl

abbrev seconds_in : Option Seconds → Option ℤ
seconds_in (Some s) = Some s.0
seconds_in None = None

seconds_in_lem : (s : Option Seconds) → s ≡ seconds_given (seconds_in s)
seconds_in_lem (Some s) = refl
seconds_in_lem None = refl

abbrev kind_in : (width : ℕ) (o : Outcome) (a : Given) → ShapedBy width o a → Kind
kind_in width Commit a s = handed s.0 (level_in a.info.generation) (seconds_in a.info.time)
kind_in width End a s = end
kind_in width (Refused r) a s = refused r

outcome_in : (width : ℕ) (o : Outcome) (a : Given) (s : ShapedBy width o a) → o ≡ outcome_of (kind_in width o a s)
outcome_in width Commit a s = refl
outcome_in width End a s = refl
outcome_in width (Refused r) a s = refl

record SameFields (a : Given) (k : Kind) : Type 0 where
  id : a.info.id ≡ id_of_kind k
  generation : a.info.generation ≡ level_of_kind k
  time : a.info.time ≡ seconds_of_kind k

fields_in : (width : ℕ) (o : Outcome) (a : Given) (s : ShapedBy width o a) → SameFields a (kind_in width o a s)
fields_in width Commit a s = record { id = s.2; generation = level_in_lem a.info.generation; time = seconds_in_lem a.info.time }
fields_in width End a s = record { id = s.0.no-id; generation = s.0.no-generation; time = s.0.no-time }
fields_in width (Refused r) a s = record { id = s.0.no-id; generation = s.0.no-generation; time = s.0.no-time }

of_call_in : (width : ℕ) (o : Outcome) (a : Given) (s : ShapedBy width o a) → (r : Refusal) → kind_in width o a s ≡ refused r → OfCall r
of_call_in width Commit a s r e = let z : ◌≡◌ {A = ℕ} 0 1 = cc in absurd (omega arith)
of_call_in width End a s r e = let z : ◌≡◌ {A = ℕ} 0 1 = cc in absurd (omega arith)
of_call_in width (Refused q) a s r e = let z : q ≡ r = cc in subst (λ (y : Refusal). OfCall y) z s.1

end_in : (width : ℕ) (o : Outcome) (a : Given) (s : ShapedBy width o a) → kind_in width o a s ≡ end → a.info.parents ≡ 0
end_in width Commit a s e = let z : ◌≡◌ {A = ℕ} 0 1 = cc in absurd (omega arith)
end_in width End a s e = s.1
end_in width (Refused q) a s e = let z : ◌≡◌ {A = ℕ} 0 1 = cc in absurd (omega arith)

counted_in : (width : ℕ) (o : Outcome) (a : Given) (s : ShapedBy width o a) → (r : Refusal) → kind_in width o a s ≡ refused r → Counted r a.info.parents
counted_in width Commit a s r e = let z : ◌≡◌ {A = ℕ} 0 1 = cc in absurd (omega arith)
counted_in width End a s r e = let z : ◌≡◌ {A = ℕ} 0 1 = cc in absurd (omega arith)
counted_in width (Refused q) a s r e = let z : q ≡ r = cc in subst (λ (y : Refusal). Counted y a.info.parents) z s.2

-- card 7: an answer without a commit has no zone
bare-zone : (a : Given) → Bare a → a.info.zone ≡ None
bare-zone a b = b.no-zone

end-zone_in : (width : ℕ) (o : Outcome) (a : Given) (s : ShapedBy width o a) → kind_in width o a s ≡ end → a.info.zone ≡ None
end-zone_in width Commit a s e = let z : ◌≡◌ {A = ℕ} 0 1 = cc in absurd (omega arith)
end-zone_in width End a s e = bare-zone a s.0
end-zone_in width (Refused q) a s e = bare-zone a s.0

refused-zone_in : (width : ℕ) (o : Outcome) (a : Given) (s : ShapedBy width o a) → (r : Refusal) → kind_in width o a s ≡ refused r → a.info.zone ≡ None
refused-zone_in width Commit a s r e = let z : ◌≡◌ {A = ℕ} 0 1 = cc in absurd (omega arith)
refused-zone_in width End a s r e = bare-zone a s.0
refused-zone_in width (Refused q) a s r e = bare-zone a s.0

no-ids : (l : List Id) → length l ≡ 0 → l ≡ []
no-ids [] e = refl
no-ids (x ∷ l) e = absurd (omega (arith, e))

abbrev model_of : (width : ℕ) (a : Given) → ShapedBy width a.outcome a → List Id → Answer
model_of width a s ps = record { kind = kind_in width a.outcome a s; parents = ps; zone = a.info.zone; admitted = a.admitted; struck = a.struck; waiting = a.waiting }

given-model : (width : ℕ) (a : Given) (ps : List Id) (s : ShapedBy width a.outcome a) → a.info.parents ≡ length ps → a ≡ given (model_of width a s ps)
unfolding given
given-model width a ps s e =
    let f = fields_in width a.outcome a s in
    λ k. record {
      outcome = outcome_in width a.outcome a s k;
      info = record { id = f.id k; parents = e k; generation = f.generation k; time = f.time k; zone = a.info.zone };
      admitted = a.admitted;
      struck = a.struck;
      waiting = a.waiting;
    }

-- ---- answers on any bytes

id_wide_in : (width : ℕ) (o : Outcome) (a : Given) (s : ShapedBy width o a) (x : Id) (g : Option ℕ) (t : Option ℤ) → kind_in width o a s ≡ handed x g t → length x ≡ width
id_wide_in width Commit a s x g t e = let z : s.0 ≡ x = cc in ap length (sym z) ∙ s.1
id_wide_in width End a s x g t e = let z : ◌≡◌ {A = ℕ} 0 1 = cc in absurd (omega arith)
id_wide_in width (Refused r) a s x g t e = let z : ◌≡◌ {A = ℕ} 0 1 = cc in absurd (omega arith)

pub of_paper : (width : ℕ) → 0 < width → {b b' : List ℕ} {a : Given} → Plain width b b' a → length b' ≡ length b → 256 * width ≤ length b → OfPaper width a b b'
unfolding parents_given
of_paper width some_bytes {b} {b'} {a} p l h =
    let few : a.info.parents ≤ 256 = p.few in
    let r : width * a.info.parents ≤ length b = omega (arith, h, in_all width few) in
    let w : length (take (width * a.info.parents) b') ≡ width * a.info.parents = length-take-le (width * a.info.parents) b' (omega (arith, l, r)) in
    let ps = list_ids width (take (width * a.info.parents) b') in
    let n : a.info.parents ≡ length ps = sym (length_list width (take (width * a.info.parents) b') ∙ ap (λ (k : ℕ). k / width) w ∙ many-ids width a.info.parents some_bytes) in
    record {
      model = model_of width a p.shape ps;
      is = given-model width a ps p.shape n;
      kind = λ r e. inl (of_call_in width a.outcome a p.shape r e);
      bare-end = λ e. no-ids ps (sym n ∙ end_in width a.outcome a p.shape e);
      end-zone = λ e. end-zone_in width a.outcome a p.shape e;
      refused-zone = λ r e. refused-zone_in width a.outcome a p.shape r e;
      bare-lost = λ e. no-ids ps (sym n ∙ (counted_in width a.outcome a p.shape CommitNotFound e).lost refl);
      crowded = λ e. inl (sym n ∙ (counted_in width a.outcome a p.shape TooManyParents e).crowded refl);
      few = omega (arith, n);
      id-wide = id_wide_in width a.outcome a p.shape;
      wide = list-wide width (take (width * a.info.parents) b');
      set_down = was-set-down b b' (width * a.info.parents) l r p.past
          ∙ ap (set_down b 0) (sym (joined-list width some_bytes (take (width * a.info.parents) b') a.info.parents w));
    }

-- an answer that carries nothing but the running numbers, and leaves the buffer as it was: painting's refusal
pub of_paper-refused : {width : ℕ} (b : List ℕ) (n : Refusal) (r : Record) → OfCall n → OfPaper width (gave (Refused n) no_id 0 None None None r).answer b b
unfolding parents_given joined given
of_paper-refused b n r c = record {
  model = record { kind = refused n; parents = []; zone = None; admitted = r.admitted; struck = r.struck; waiting = r.queue.count };
  is = refl;
  kind = λ q e. let z : n ≡ q = cc in inl (subst (λ (y : Refusal). OfCall y) z c);
  bare-end = λ e. refl;
  end-zone = λ e. refl;
  refused-zone = λ r e. refl;
  bare-lost = λ e. refl;
  crowded = λ e. inr refl;
  few = omega arith;
  id-wide = λ x g t e. let z : ◌≡◌ {A = ℕ} 0 1 = cc in absurd (omega arith);
  wide = λ x m. absurd (Memᴰ.not-nil m);
  set_down = set_down-none b;
}

-- and the end
pub plain_end : {width : ℕ} (b : List ℕ) (r : Record) → Plain width b b (gave End no_id 0 None None None r).answer
plain_end b r = record { shape = (record { no-id = refl; no-generation = refl; no-time = refl; no-zone = refl }, refl); few = omega arith; past = λ k h. refl }

-- refusal 12
pub of_paper-shut : {width : ℕ} (b : List ℕ) → OfPaper width closed_answer b b
unfolding parents_given joined
of_paper-shut b = record {
  model = shut;
  is = refl;
  kind = λ r e. inr refl;
  bare-end = λ e. refl;
  end-zone = λ e. refl;
  refused-zone = λ r e. refl;
  bare-lost = λ e. refl;
  crowded = λ e. inr refl;
  few = omega arith;
  id-wide = λ x g t e. let z : ◌≡◌ {A = ℕ} 0 1 = cc in absurd (omega arith);
  wide = λ x m. absurd (Memᴰ.not-nil m);
  set_down = set_down-none b;
}

-- no other answer is 12
pub not-shut : {width : ℕ} {b b' : List ℕ} {a : Given} → Plain width b b' a → a.outcome ≡ Refused Closed → ⊥
not-shut {width = width} {a = a} p e = let s = subst (λ (o : Outcome). ShapedBy width o a) e p.shape in omega (arith, s.1.1)

pub call_not_shut : (n : Refusal) → OfCall n → Refused n ≡ Refused Closed → ⊥
call_not_shut n c e = let z : n ≡ Closed = cc in let d : OfCall Closed = subst (λ (y : Refusal). OfCall y) z c in omega (arith, d.1)
