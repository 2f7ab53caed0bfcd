-- Which lines of a session are meant.
use Rattle.std.specs.Prelude.{ℕ, Bool, true, false, ◌&&◌, ◌==◌, nat_le, Option, Some, None}
use Rattle.ror_session.specs.declared.session.Asked.TheVariants as asked
use Rattle.ror_session.specs.declared.session.Command.{Command}
use Rattle.ror_session.specs.declared.session.Command.TheVariants.{Ask}
use Rattle.ror_bench.specs.declared.kept.Keep.{Keep}
use Rattle.ror_bench.specs.declared.kept.Keep.TheVariants.{Nothing, Standing}
use Rattle.ror_show_find_classes.specs.Times.{keep_for}

-- the line asks for the relation
abbrev pub asks_relation : Command → Bool
asks_relation (Ask asked.Relation) = true
asks_relation _ = false

-- the line asks for the relation, or for the classes of an alternative
abbrev pub asks_for_list : Command → Bool
asks_for_list (Ask asked.Relation) = true
asks_for_list (Ask (asked.Classes name)) = true
asks_for_list _ = false

-- it is the line that is meant, where one is
abbrev pub is_line : Option ℕ → ℕ → Bool
is_line None number = true
is_line (Some n) number = n == number

-- it is that line or one before it, where one is meant
abbrev pub is_up_to : Option ℕ → ℕ → Bool
is_up_to None number = true
is_up_to (Some n) number = nat_le number n

-- what is needed of both relations and classes
abbrev pub keep_for_changes : Command → Keep
keep_for_changes (Ask asked.Relation) = Standing
keep_for_changes command = keep_for command

-- so much of the lines of which this holds, and nothing of others
abbrev pub keep_where : Bool → Keep → Keep
keep_where true keep = keep
keep_where false keep = Nothing

-- of a line that is meant what it asks, and else what is needed of relations and classes
abbrev pub keep_for_whatif : Option ℕ → ℕ → Command → Keep
keep_for_whatif None number command = keep_for_changes command
keep_for_whatif (Some n) number command = keep_where (asks_for_list command && (n == number)) Standing
