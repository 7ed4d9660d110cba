-- each n f             f 0, f 1 and so on up to f (n - 1), one behind the other
-- when b xs            xs if b holds, else nothing
-- head_line n s        the line of n states and the start s
-- way_line w a         the line of action a with the way w; an absent action has none
-- step_line f a t      the line of a step from f under a to t
-- error_line s         the line of an error
-- action_lines r       the lines of the actions of the row r, ascending
-- step_of r f a t      the line of a step, if r tells it
-- steps_under r f a    the lines of the steps from f under a, ascending by the state that they lead to
-- steps_from r f       the lines of the steps from f, ascending by action
-- step_lines r         the lines of all steps of r between its states, ascending by the state that they leave
-- error_of r s         the line of an error, if r tells it
-- error_lines r        the lines of the errors of r, ascending
-- row_text r           all lines of r
-- refused_text n p     the line of a refusal: its number, and the offset that it points at
-- shown o              the text of a row that was opened, or of the fault that refused it
-- table_text bytes     the text of the table that some bytes lay out, or of their refusal
use Rattle.std.specs.Prelude.{ℕ, zero, suc, Bool, cond, List, [], ◌++◌, Ok, Err, codes, decimal, Result}
use Rattle.semantics.specs.declared.way.Way.{Way}
use Rattle.semantics.specs.declared.way.Way.TheVariants.{Absent, Input, Output}
use Rattle.reader.specs.declared.fault.Fault.{Fault}
use Rattle.reader.specs.declared.row.Row.{Row}
use Rattle.reader.specs.Fault.{number, place}
use Rattle.reader.specs.Row.{way_of, error_at, listed, told}
use Rattle.reader.specs.Table.{opened}

unfoldable pub each : ℕ → (ℕ → List ℕ) → List ℕ
each zero f = []
each (suc n) f = each n f ++ f n

abbrev pub when : Bool → List ℕ → List ℕ
when b xs = cond b xs []

abbrev pub head_line : ℕ → ℕ → List ℕ
head_line n s = codes "states " ++ (decimal n ++ (codes " start " ++ (decimal s ++ codes "\n")))

abbrev pub way_line : Way → ℕ → List ℕ
way_line Absent a = []
way_line Input a = codes "in " ++ (decimal a ++ codes "\n")
way_line Output a = codes "out " ++ (decimal a ++ codes "\n")

abbrev pub step_line : ℕ → ℕ → ℕ → List ℕ
step_line f a t = codes "step " ++ (decimal f ++ (codes " " ++ (decimal a ++ (codes " " ++ (decimal t ++ codes "\n")))))

abbrev pub error_line : ℕ → List ℕ
error_line s = codes "error " ++ (decimal s ++ codes "\n")

-- action 0 has no way, so it has no line
abbrev pub action_lines : Row → List ℕ
action_lines r = each 33 (λ a. way_line (way_of r a) a)

abbrev pub step_of : Row → ℕ → ℕ → ℕ → List ℕ
step_of r f a t = when (told (record { from = f; action = a; to = t }) (listed r)) (step_line f a t)

abbrev pub steps_under : Row → ℕ → ℕ → List ℕ
steps_under r f a = each r.states (λ t. step_of r f a t)

abbrev pub steps_from : Row → ℕ → List ℕ
steps_from r f = each 33 (λ a. steps_under r f a)

abbrev pub step_lines : Row → List ℕ
step_lines r = each r.states (λ f. steps_from r f)

abbrev pub error_of : Row → ℕ → List ℕ
error_of r s = when (error_at r s) (error_line s)

abbrev pub error_lines : Row → List ℕ
error_lines r = each 64 (λ s. error_of r s)

abbrev pub row_text : Row → List ℕ
row_text r = head_line r.states r.start ++ (action_lines r ++ (step_lines r ++ (error_lines r ++ codes "end\n")))

abbrev pub refused_text : ℕ → ℕ → List ℕ
refused_text n p = codes "refused " ++ (decimal n ++ (codes " at " ++ (decimal p ++ codes "\n")))

abbrev pub shown : Result Row Fault → List ℕ
shown (Ok r) = row_text r
shown (Err f) = refused_text (number f) (place f)

abbrev pub table_text : List ℕ → List ℕ
table_text bytes = shown (opened bytes)
