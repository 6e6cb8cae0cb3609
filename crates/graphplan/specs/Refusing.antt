-- When there is no file of a store (document 02, card 4), and what is known of it else. Assumes nothing.
use Rattle.std.specs.Prelude.{◌≡◌, ℕ, cond, List, length, ltb, None, Option, Some, Result, Ok, Err}
use Rattle.odb.specs.Store.{standing_entries, store_is_ok}
use Rattle.graphfile.specs.GraphFile.{edges_in}
use Rattle.walk.specs.declared.Refusal.{Refusal}
use Rattle.walk.specs.declared.Refusal.TheVariants.{BufferTooSmall, InputTooLarge, CorruptStore, UnfitStore, UnfitSeconds}
use Rattle.graphplan.specs.StoreRows.{rows_of, fit_store, all_readable, all_in_time}
use Rattle.graphplan.specs.Entries.{Holds, edges_up_to}
use Rattle.graphplan.specs.declared.Plan.{Plan}
use Rattle.levels.specs.declared.LevelsError.{LevelsError}
use Rattle.levels.specs.declared.LevelsError.TheVariants.{NoLevels, Short, Torn}

-- "book … over 16,777,216 bytes"
abbrev pub most_bytes : ℕ
most_bytes = 16777216

-- "Refused: 18 unfit book …, 19 seconds outside 0 to 17,179,869,183 … in that order after 2, 4 and 1 (lent levels of under one u32 per entry)"
unfoldable pub refusal_for : ℕ → List ℕ → ℕ → Option Refusal
refusal_for w b lent =
    let n = standing_entries w b in
    let seconds : Option Refusal = cond (all_in_time w b n) None (Some UnfitSeconds) in
    let fitness : Option Refusal = cond (fit_store w b) seconds (Some UnfitStore) in
    let room : Option Refusal = cond (ltb lent n) (Some BufferTooSmall) fitness in
    let layout : Option Refusal = cond (store_is_ok w b) room (Some CorruptStore) in
    cond (ltb most_bytes (length b)) (Some InputTooLarge) layout

-- "The lent levels are free afterwards, save after 2, 4 and 1, which alter nothing"
pub record Spared (s s' : List ℕ) (r : Option Refusal) : Type 0 where
  pub large : r ≡ Some InputTooLarge → s' ≡ s
  pub torn : r ≡ Some CorruptStore → s' ≡ s
  pub short : r ≡ Some BufferTooSmall → s' ≡ s

-- what reading the headers of n entries finds
unfoldable pub survey_of : ℕ → List ℕ → ℕ → Result ℕ Refusal
survey_of w b n =
    let seconds : Result ℕ Refusal = cond (all_in_time w b n) (Ok (edges_up_to w b n)) (Err UnfitSeconds) in
    cond (all_readable w b n) seconds (Err UnfitStore)

abbrev pub plan_after : ℕ → Result ℕ Refusal → Result Plan Refusal
plan_after n (Err r) = Err r
plan_after n (Ok e) = Ok (record { rows = n; edges = e })

-- the refusal where the levels are not set down
abbrev pub without_levels : LevelsError → Refusal
without_levels Torn = CorruptStore
without_levels Short = BufferTooSmall
without_levels NoLevels = UnfitStore

-- what a plan is
abbrev pub plan_for : ℕ → List ℕ → Option Refusal → Result Plan Refusal
plan_for w b None = Ok (record { rows = standing_entries w b; edges = length (edges_in (rows_of w b)) })
plan_for w b (Some r) = Err r

pub record Plans (w : ℕ) (b s s' : List ℕ) (r : Result Plan Refusal) : Type 0 where
  pub answer : r ≡ plan_for w b (refusal_for w b (length s))
  pub spared : Spared s s' (refusal_for w b (length s))
  pub levels : refusal_for w b (length s) ≡ None → Holds w b s' (standing_entries w b)

unfoldable pub refusing_all : Unit {0}
unfolding refusal_for survey_of
refusing_all = tt
