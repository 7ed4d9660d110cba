-- system_of r        the system that the row r tells
-- stray_step r k     does the k-th step of the row r go from no state, to no state, or under no action of the row?
-- stray_error r      does the row r tell an error that is no state?
-- limited r          are the numbers of the row r within their limits?
-- keeps r            does the row r keep the limits and facts of a table?
-- station_of r       the station of the row r: its system if it keeps them, else none
-- station_at rs s    the station of the s-th row of rs, counted from 0
-- table_meaning rs   what the roster of the rows rs says: their first 16 are its stations
use Rattle.std.specs.Prelude.{ℕ, zero, suc, Bool, cond, not, ◌&&◌, List, [], ◌∷◌, length, take, drop, Some, None, Option, nat_le, nat_lt, slice_index_or}
use Rattle.std.specs.List.{list_any}
use Rattle.semantics.specs.System.{System, any}
use Rattle.reader.specs.declared.row.Row.{Row}
use Rattle.reader.specs.Row.{unused, way_of, error_at, listed, told, fitting}
use Rattle.roster.specs.Meaning.{Meaning}

abbrev pub system_of : Row → System
system_of r =
    record {
      states = r.states;
      start = r.start;
      actions = 32;
      way = way_of r;
      error = error_at r;
      step = λ p x q. told (record { from = p; action = x; to = q }) (listed r);
    }

-- the k-th step that the row tells does not go from a state to a state under an action of the row
abbrev pub stray_step : Row → ℕ → Bool
stray_step r k = not (fitting r (slice_index_or r.steps k unused))

-- the row tells an error that is no state
abbrev pub stray_error : Row → Bool
stray_error r = list_any (λ told. told) (drop r.states r.errors)

-- there are 1 to 64 states, one of them the start, and at most 256 steps
abbrev pub limited : Row → Bool
limited r = nat_le 1 r.states && (nat_le r.states 64 && (nat_lt r.start r.states && nat_le r.count 256))

unfoldable pub keeps : Row → Bool
keeps r = limited r && (not (any (stray_step r) r.count) && not (stray_error r))

abbrev pub station_of : Row → Option System
station_of r = cond (keeps r) (Some (system_of r)) None

abbrev pub station_at : List Row → ℕ → Option System
station_at [] s = None
station_at (r ∷ rs) zero = station_of r
station_at (r ∷ rs) (suc s) = station_at rs s

abbrev pub table_meaning : List Row → Meaning
table_meaning rs = record { size = length (take 16 rs); station = station_at (take 16 rs); parts = λ s. None }
