-- The exit status of a run, and the line that it writes on standard error.
use Rattle.std.specs.Prelude.{ℕ, List, [], ◌++◌, codes, decimal}
use Rattle.ror_table.specs.declared.fault.What.{What}
use Rattle.ror_table.specs.declared.fault.What.TheVariants as whats
use Rattle.ror_table.specs.declared.fault.Kind.{Kind}
use Rattle.ror_table.specs.declared.fault.Kind.TheVariants as unsupported
use Rattle.ror_table.specs.declared.fault.TableKind.{TableKind}
use Rattle.ror_table.specs.declared.fault.TableKind.TheVariants as kinds
use Rattle.ror_session.specs.declared.session.SessionFault.{SessionFault}
use Rattle.ror_session.specs.declared.session.SessionFault.TheVariants as sessions
use Rattle.ror_system.specs.declared.reject.Reject.{Reject}
use Rattle.ror_system.specs.declared.reject.Reject.TheVariants as rejects
use Rattle.ror_check.specs.declared.fault.CheckFault.{CheckFault}
use Rattle.ror_check.specs.declared.fault.CheckFault.TheVariants as checks
use Rattle.ror_check.specs.declared.fault.RepairCheckFault.{RepairCheckFault}
use Rattle.ror_check.specs.declared.fault.RepairCheckFault.TheVariants as repairs
use Rattle.ror_discriminate.specs.declared.fault.OptimalFault.{OptimalFault}
use Rattle.ror_discriminate.specs.declared.fault.OptimalFault.TheVariants as optima
use Rattle.ror_ranks.specs.declared.fault.ExtremeFault.{ExtremeFault}
use Rattle.ror_ranks.specs.declared.fault.ExtremeFault.TheVariants as extremes
use Rattle.ror_confidence.specs.declared.fault.LevelsFault.{LevelsFault}
use Rattle.ror_confidence.specs.declared.fault.LevelsFault.TheVariants as levels
use Rattle.ror_table.specs.declared.fault.TableFault.{TableFault}
use Rattle.ror_bench.specs.declared.report.Accepted.{Accepted}
use Rattle.ror_bench.specs.declared.report.Rejection.{Rejection}
use Rattle.ror_bench.specs.declared.report.Reason.{Reason}
use Rattle.ror_bench.specs.declared.report.Reason.TheVariants as reasons
use Rattle.ror_words.specs.Commands.{usage_text}
use Rattle.ror_frame.specs.declared.status.Status.{Status}
use Rattle.ror_frame.specs.declared.status.Status.TheVariants as statuses

abbrev pub code_of : Status → ℕ
code_of statuses.Done = 0
code_of statuses.Usage = 2
code_of (statuses.BadTable f) = 3
code_of (statuses.BadSession f) = 4
code_of (statuses.Rejected r) = 5
code_of (statuses.Uncertified r) = 5
code_of statuses.ReadFault = 6
code_of statuses.WriteFault = 7
code_of statuses.Memory = 8
code_of statuses.DoneWide = 9
code_of (statuses.Unsuited line) = 10
code_of (statuses.BadLevels f) = 11

abbrev pub what_text : What → List ℕ
what_text whats.Alternatives = codes "Alternatives"
what_text whats.Criteria = codes "Criteria"
what_text whats.Steps = codes "Steps"
what_text whats.Classes = codes "Classes"
what_text whats.Levels = codes "Levels"
what_text whats.Statements = codes "Statements"
what_text whats.Rows = codes "Rows"

abbrev pub unsupported_text : Kind → List ℕ
unsupported_text unsupported.Doctype = codes "Doctype"
unsupported_text unsupported.Encoding = codes "Encoding"
unsupported_text unsupported.Entity = codes "Entity"
unsupported_text unsupported.Qualitative = codes "Qualitative"
unsupported_text unsupported.Direction = codes "Direction"
unsupported_text unsupported.Value = codes "Value"
unsupported_text unsupported.Member = codes "Member"
unsupported_text unsupported.Id = codes "Id"
unsupported_text unsupported.Rank = codes "Rank"

abbrev pub kind_text : TableKind → List ℕ
kind_text kinds.Form = codes "Form"
kind_text kinds.NotUtf8 = codes "NotUtf8"
kind_text kinds.BadLine = codes "BadLine"
kind_text kinds.RepeatedId = codes "RepeatedId"
kind_text kinds.UnknownId = codes "UnknownId"
kind_text kinds.MissingPerformance = codes "MissingPerformance"
kind_text kinds.RepeatedPerformance = codes "RepeatedPerformance"
kind_text kinds.BadNumber = codes "BadNumber"
kind_text (kinds.TooMany what) = codes "TooMany " ++ what_text what
kind_text kinds.Empty = codes "Empty"
kind_text kinds.TooLong = codes "TooLong"
kind_text kinds.Unclosed = codes "Unclosed"
kind_text kinds.Mismatched = codes "Mismatched"
kind_text (kinds.Unsupported kind) = codes "Unsupported " ++ unsupported_text kind
kind_text kinds.WideScale = codes "WideScale"

abbrev pub reject_text : Reject → List ℕ
reject_text rejects.Length = codes "Length"
reject_text (rejects.Negative k) = codes "Negative " ++ decimal k
reject_text rejects.Total = codes "Total"
reject_text (rejects.RowWide k) = codes "RowWide " ++ decimal k
reject_text (rejects.Row k) = codes "Row " ++ decimal k
reject_text rejects.NoStrict = codes "NoStrict"
reject_text (rejects.ColumnWide k) = codes "ColumnWide " ++ decimal k
reject_text (rejects.Column k) = codes "Column " ++ decimal k

abbrev pub fault_text : CheckFault → List ℕ
fault_text checks.WrongQuestion = codes "WrongQuestion"
fault_text checks.WrongVerdict = codes "WrongVerdict"
fault_text checks.PartCount = codes "PartCount"
fault_text (checks.Base r) = codes "base " ++ reject_text r
fault_text (checks.Part k r) = codes "part " ++ decimal k ++ codes " " ++ reject_text r
fault_text checks.Memory = codes "Memory"

abbrev pub repair_fault_text : RepairCheckFault → List ℕ
repair_fault_text repairs.WrongList = codes "WrongList"
repair_fault_text repairs.WrongKind = codes "WrongKind"
repair_fault_text (repairs.Dropped n r) =
    codes "dropped " ++ decimal n ++ codes " " ++ reject_text r
repair_fault_text (repairs.Base r) = codes "base " ++ reject_text r
repair_fault_text repairs.Memory = codes "Memory"

abbrev pub optimal_fault_text : OptimalFault → List ℕ
optimal_fault_text optima.NoStrictRow = codes "NoStrictRow"
optimal_fault_text (optima.Solution r) = codes "Solution " ++ reject_text r
optimal_fault_text optima.Total = codes "Total"
optimal_fault_text optima.Length = codes "Length"
optimal_fault_text (optima.Negative k) = codes "Negative " ++ decimal k
optimal_fault_text optima.OnesRow = codes "OnesRow"
optimal_fault_text optima.NoStrict = codes "NoStrict"
optimal_fault_text (optima.ScaleWide k) = codes "ScaleWide " ++ decimal k
optimal_fault_text (optima.ColumnWide k) = codes "ColumnWide " ++ decimal k
optimal_fault_text (optima.Column k) = codes "Column " ++ decimal k
optimal_fault_text optima.Memory = codes "Memory"

abbrev pub extreme_fault_text : ExtremeFault → List ℕ
extreme_fault_text extremes.Ends = codes "Ends"
extreme_fault_text extremes.Except = codes "Except"
extreme_fault_text (extremes.Function r) = codes "function " ++ reject_text r
extreme_fault_text (extremes.Members k) = codes "Members " ++ decimal k
extreme_fault_text (extremes.Conflict k r) = codes "conflict " ++ decimal k ++ codes " " ++ reject_text r
extreme_fault_text (extremes.Node k) = codes "Node " ++ decimal k
extreme_fault_text extremes.Unfinished = codes "Unfinished"
extreme_fault_text extremes.Memory = codes "Memory"

abbrev pub reason_text : Reason → List ℕ
reason_text reasons.TooLong = codes "TooLong"
reason_text reasons.NotUtf8 = codes "NotUtf8"
reason_text (reasons.BadLine n) = codes "BadLine " ++ decimal n
reason_text (reasons.BadNumber n) = codes "BadNumber " ++ decimal n
reason_text reasons.WrongBlock = codes "WrongBlock"
reason_text (reasons.Answer k f) = codes "answer " ++ decimal k ++ codes " " ++ fault_text f
reason_text (reasons.Repair f) = codes "repair " ++ repair_fault_text f
reason_text (reasons.Optimal f) = codes "optimal " ++ optimal_fault_text f
reason_text (reasons.Rank k f) = codes "rank " ++ decimal k ++ codes " " ++ extreme_fault_text f
reason_text (reasons.Contradiction r) = codes "contradiction " ++ reject_text r
reason_text reasons.BadJson = codes "BadJson"
reason_text reasons.BadShape = codes "BadShape"

-- a certificate that is none of its answer has a word of its own
abbrev pub certificate_reason_text : Reason → List ℕ
certificate_reason_text reasons.WrongBlock = codes "WrongCertificate"
certificate_reason_text reason = reason_text reason

-- the lines of the refusals
abbrev pub table_line : TableFault → List ℕ
table_line f =
    codes "bad table: " ++ kind_text f.kind ++ codes " line " ++ decimal f.line ++ codes "\n"

abbrev pub session_line : SessionFault → List ℕ
session_line sessions.NotUtf8 = codes "bad session: NotUtf8\n"
session_line (sessions.BadLine n) = codes "bad session: BadLine line " ++ decimal n ++ codes "\n"
session_line sessions.TooManyLines = codes "bad session: TooManyLines\n"
session_line sessions.TooLong = codes "bad session: TooLong\n"
session_line (sessions.TooManyDesks n) = codes "bad session: TooManyDesks line " ++ decimal n ++ codes "\n"
session_line sessions.Memory = codes "bad session: Memory\n"

abbrev pub rejection_line : Rejection → List ℕ
rejection_line r =
    codes "rejected: block " ++ decimal r.block ++ codes " " ++ reason_text r.reason ++ codes "\n"

-- certificates are counted as blocks
abbrev pub uncertified_line : Rejection → List ℕ
uncertified_line r =
    codes "rejected: certificate " ++ decimal r.block ++ codes " " ++ certificate_reason_text r.reason ++ codes "\n"

abbrev pub unsuited_line : ℕ → List ℕ
unsuited_line n = codes "unsuited session: line " ++ decimal n ++ codes "\n"

abbrev pub levels_line : LevelsFault → List ℕ
levels_line levels.TooLong = codes "bad levels: TooLong\n"
levels_line levels.NotUtf8 = codes "bad levels: NotUtf8\n"
levels_line (levels.BadLine n) = codes "bad levels: BadLine line " ++ decimal n ++ codes "\n"
levels_line (levels.Repeated n) = codes "bad levels: Repeated line " ++ decimal n ++ codes "\n"
levels_line (levels.UnknownStatement n) = codes "bad levels: UnknownStatement line " ++ decimal n ++ codes "\n"
levels_line levels.Memory = codes "bad levels: Memory\n"

-- the line of a status; nothing where the work was done
unfoldable pub status_text : Status → List ℕ
status_text statuses.Done = []
status_text statuses.Usage = usage_text
status_text (statuses.BadTable f) = table_line f
status_text (statuses.BadSession f) = session_line f
status_text (statuses.Rejected r) = rejection_line r
status_text (statuses.Uncertified r) = uncertified_line r
status_text statuses.ReadFault = codes "read fault\n"
status_text statuses.WriteFault = codes "write fault\n"
status_text statuses.Memory = codes "memory\n"
status_text statuses.DoneWide = []
status_text (statuses.Unsuited line) = unsuited_line line
status_text (statuses.BadLevels f) = levels_line f

-- the line of an accepted report: how many answers were accepted, and how many answers and repairs are too wide
unfoldable pub accepted_text : Accepted → List ℕ
accepted_text accepted =
    codes "accepted " ++ decimal accepted.answers ++ codes " wide " ++ decimal accepted.wide ++ codes "\n"
