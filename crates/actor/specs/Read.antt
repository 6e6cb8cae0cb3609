-- What the functions of this crate answer, in the terms of a person's line. Assumes nothing.
use Rattle.std.specs.Prelude.{ℤ, None, Option, Some}
use Rattle.date.specs.declared.Seconds.{Seconds}
use Rattle.date.specs.declared.Stamp.{Stamp}
use Rattle.actor.specs.Person.{Stamped}

-- seconds that were read
abbrev pub seconds_read : Option ℤ → Option Seconds
seconds_read None = None
seconds_read (Some s) = Some (record { 0 = s })

-- a committer reading
abbrev pub stamp_given : Stamped → Stamp
stamp_given s = record { seconds = record { 0 = s.seconds }; zone = s.zone }

abbrev pub stamp_read : Option Stamped → Option Stamp
stamp_read None = None
stamp_read (Some s) = Some (stamp_given s)
