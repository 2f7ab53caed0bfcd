-- The keys that tell apart what an object is: a block, an answer, a certificate.
use Rattle.std.specs.Prelude.{ℕ, List, [], ◌∷◌, codes}
use Rattle.ror_report.specs.declared.block.Body.{Body}
use Rattle.ror_report.specs.declared.block.Body.TheVariants as bodies
use Rattle.ror_json.specs.declared.keys.BodyKey.{BodyKey}
use Rattle.ror_json.specs.declared.keys.BodyKey.TheVariants as keys
use Rattle.ror_json.specs.declared.keys.CertificateKey.{CertificateKey}
use Rattle.ror_json.specs.declared.keys.CertificateKey.TheVariants as certificates
use Rattle.ror_json.specs.declared.keys.AnswerKey.{AnswerKey}
use Rattle.ror_json.specs.declared.keys.AnswerKey.TheVariants as answers

abbrev pub body_key : Body → BodyKey
body_key (bodies.Added n) = keys.Added
body_key (bodies.Withdrawn n) = keys.Withdrawn
body_key (bodies.Replaced n) = keys.Replaced
body_key bodies.Undone = keys.Undone
body_key (bodies.Repaired kept) = keys.Repaired
body_key (bodies.RepairWide n note) = keys.RepairWide
body_key (bodies.Answers answers) = keys.Answers
body_key (bodies.Refused fault) = keys.Refused

abbrev pub key_word : BodyKey → List ℕ
key_word keys.Added = codes "added"
key_word keys.Answers = codes "answers"
key_word keys.Refused = codes "refused"
key_word keys.RepairWide = codes "repair-wide"
key_word keys.Repaired = codes "repaired"
key_word keys.Replaced = codes "replaced"
key_word keys.Undone = codes "undone"
key_word keys.Withdrawn = codes "withdrawn"

-- those that come before `line`, and those that come after it
abbrev pub early_keys : List BodyKey
early_keys = keys.Added ∷ keys.Answers ∷ []

abbrev pub late_keys : List BodyKey
late_keys =
    keys.Refused ∷ keys.RepairWide ∷ keys.Repaired ∷ keys.Replaced ∷ keys.Undone ∷ keys.Withdrawn
    ∷ []

abbrev pub certificate_word : CertificateKey → List ℕ
certificate_word certificates.Solution = codes "solution"
certificate_word certificates.Multipliers = codes "multipliers"

abbrev pub certificate_key_list : List CertificateKey
certificate_key_list = certificates.Solution ∷ certificates.Multipliers ∷ []

-- the first key of an answer with a proof, and of one that concludes nothing
abbrev pub answer_word : AnswerKey → List ℕ
answer_word answers.Base = codes "base"
answer_word answers.Question = codes "question"

abbrev pub answer_key_list : List AnswerKey
answer_key_list = answers.Base ∷ answers.Question ∷ []
