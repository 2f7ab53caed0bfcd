-- What the bytes that were read are, and what stands where a byte is not allowed.
use Rattle.std.proofs.Common.{◌≡◌, ℕ, ◌<◌, ◌≤◌, Bool, true, false, not, List, [], ◌∷◌, ◌++◌, append_assoc, length, take, Option, None, Result, Ok, Err, refl, ap, subst, ◌∙◌}
use Rattle.std.specs.Prelude.{◌⊎◌, ◌==◌, ◌&&◌, if◌then◌else◌}
use Rattle.std.specs.List.{AllByRecursion}
use Rattle.std.proofs.lemmas.Bool.{eqb-true}
use Rattle.ror_text.specs.Reading.{◌>>=◌, refuse}
use Rattle.ror_elements.specs.declared.declaration.Declaration.{Declaration}
use Rattle.ror_elements.specs.declared.element.ElementFault.{ElementFault}
use Rattle.ror_elements.specs.declared.element.ElementKind.{ElementKind}
use Rattle.ror_elements.specs.declared.element.ElementKind.TheVariants as kinds
use Rattle.ror_elements.specs.declared.mode.Home.{Home}
use Rattle.ror_elements.specs.declared.mode.Home.TheVariants as homes
use Rattle.ror_elements.specs.declared.mode.Mode.{Mode}
use Rattle.ror_elements.specs.declared.mode.Mode.TheVariants as modes
use Rattle.ror_elements.specs.declared.mode.Opening.TheVariants as openings
use Rattle.ror_elements.specs.declared.mode.Quote.{Quote}
use Rattle.ror_elements.specs.declared.mode.Seen.{Seen}
use Rattle.ror_elements.specs.declared.mode.Seen.TheVariants as marks
use Rattle.ror_elements.specs.declared.open.Open.{Open}
use Rattle.ror_elements.specs.declared.reader.Reader.{Reader}
use Rattle.ror_elements.specs.declared.reader.Tag.{Tag}
use Rattle.ror_elements.specs.Declarations.{nothing_declared, is_foreign}
use Rattle.ror_elements.specs.Grammar.{IsName, IsSpace, IsGap, BeginsTag, IsValue, AreDistinct, IsTag, line_behind}
use Rattle.ror_elements.specs.Laws.{IsReached}
use Rattle.ror_elements.specs.Marks.{is_name_byte, is_control, local_name}
use Rattle.ror_elements.specs.Mode.{opening_text, quote_byte}
use Rattle.ror_elements.specs.Open.{is_none}
use Rattle.ror_elements.specs.Refusals.{AreReferenceBytes, IsBegunTag, IsBadRest, IsBadMarkup, IsBadReference}
use Rattle.ror_elements.specs.References.{entity, number_of}
use Rattle.ror_elements.specs.Tags.{root_name}
use Rattle.ror_elements.proofs.Behind.{Ends, EndsQuestion}
use Rattle.ror_elements.proofs.Declared.{known}
use Rattle.ror_elements.proofs.LawLemmas.{lines_are_counted}

-- ---- open elements

abbrev pub AreNameBytes : List ℕ → Type 0
AreNameBytes bytes = AllByRecursion (λ byte. is_name_byte byte ≡ true) bytes

-- the root is kept
abbrev pub IsFirstKept : Bool → List Open → Type 0
IsFirstKept kept [] = kept ≡ true
IsFirstKept kept (around ∷ outer) = Unit {0}

-- each has a name, the root is kept, and the outermost is the whole text
abbrev pub IsStacked : (name : List ℕ) (kept : Bool) (path : List ℕ) → List Open → Type 0
IsStacked name kept path [] = (kept ≡ true) × (path ≡ [])
IsStacked name kept path (around ∷ outer) = IsName name × IsFirstKept kept outer × IsStacked around.name around.kept around.path outer

abbrev pub Stacked : Open → List Open → Type 0
Stacked top below = IsStacked top.name top.kept top.path below

-- the names of what is open, from the innermost
abbrev pub open_names : Open → List Open → List (List ℕ)
open_names top [] = []
open_names top (around ∷ outer) = top.name ∷ open_names around outer

-- a root was closed
abbrev pub is_closed : Open → List Open → Bool
is_closed top below = is_none below && not (is_none top.children)

-- ---- what was read

-- nothing, or bytes of which the last is ASCII
abbrev pub EndsLow : List ℕ → Type 0
EndsLow seen = (seen ≡ []) ⊎ ((before : List ℕ) × (byte : ℕ) × (seen ≡ before ++ byte ∷ []) × (byte < 128))

-- between constructs: nothing was read, or what is read outside the root ends with an ASCII byte
abbrev pub IsBetween : List ℕ → Mode → List Open → Type 0
IsBetween seen modes.Start below = seen ≡ []
IsBetween seen modes.Content below = is_none below ≡ true → EndsLow seen
IsBetween seen _ below = ⊥

-- these bytes begin on this line, behind a front that was read, between constructs, and stand at the end of what was read
pub record Begun (seen : List ℕ) (line : ℕ) (top : Open) (below : List Open) (piece : List ℕ) : Type 0 where
  pub front : List ℕ
  pub mode : Mode
  pub like : Reader
  pub reads : IsReached front (record like { mode = mode; line = line; top = top; below = below })
  pub between : IsBetween front mode below
  pub stacked : Stacked top below
  pub split : seen ≡ front ++ piece

-- these bytes begin on this line, and stand at the end of what was read
pub record Referred (seen : List ℕ) (line : ℕ) (piece : List ℕ) : Type 0 where
  pub before : List ℕ
  pub split : seen ≡ before ++ piece
  pub is_line : line ≡ line_behind 1 before

-- an instruction with which the text begins, so far
pub record Instructed (seen : List ℕ) (start : ℕ) (question : Bool) (declaration : Declaration) : Type 0 where
  pub inside : List ℕ
  pub split : seen ≡ 60 ∷ 63 ∷ inside
  pub known_is : declaration ≡ known nothing_declared inside
  pub first : start ≡ 1
  pub goes : (more : List ℕ) → EndsQuestion question more → EndsQuestion false (inside ++ more)

-- what ends with two marks and `>`, so far: how it begins, and what was read of it
pub record UpToMark (lead : List ℕ) (mark : ℕ) (before : Seen) (seen : List ℕ) (start : ℕ) (below : List Open) : Type 0 where
  pub top : Open
  pub inside : List ℕ
  pub begun : Begun seen start top below (lead ++ inside)
  pub goes : (more : List ℕ) → Ends mark before more → Ends mark marks.Nothing (inside ++ more)

-- an instruction so far
pub record UpToQuestion (question : Bool) (seen : List ℕ) (start : ℕ) (top : Open) (below : List Open) : Type 0 where
  pub inside : List ℕ
  pub begun : Begun seen start top below (60 ∷ 63 ∷ inside)
  pub goes : (more : List ℕ) → EndsQuestion question more → EndsQuestion false (inside ++ more)

-- an end tag so far
abbrev pub Ended : List ℕ → ℕ → Open → List Open → List ℕ → Type 0
Ended seen start top below piece = Begun seen start top below (60 ∷ 47 ∷ piece) × AreNameBytes piece × (is_none below ≡ false)

-- behind the name of an end tag and white space
pub record BehindEnd (seen : List ℕ) (start : ℕ) (top : Open) (below : List Open) : Type 0 where
  pub space : List ℕ
  pub begun : Begun seen start top below (60 ∷ 47 ∷ top.name ++ space)
  pub is_space : IsSpace space
  pub some : ¬ (space ≡ [])
  pub inside : is_none below ≡ false

-- a tag so far: a name, attributes with these names, and then this rest
pub record Tagged (seen : List ℕ) (start : ℕ) (top : Open) (below : List Open) (name : List ℕ) (names : List (List ℕ)) (rest : List ℕ) : Type 0 where
  pub bytes : List ℕ
  pub begun : Begun seen start top below bytes
  pub is_begun : IsBegunTag bytes name names rest
  pub few : length below < 64
  pub first : is_closed top below ≡ false

pub record AtSpace (spaced : Bool) (seen : List ℕ) (start : ℕ) (top : Open) (below : List Open) (tag : Tag) : Type 0 where
  pub space : List ℕ
  pub tagged : Tagged seen start top below tag.name tag.names space
  pub is_space : IsSpace space
  pub some : spaced ≡ true → ¬ (space ≡ [])
  pub none : spaced ≡ false → space ≡ []

pub record InTag (spaced : Bool) (seen : List ℕ) (start : ℕ) (top : Open) (below : List Open) (tag : Tag) : Type 0 where
  pub space : List ℕ
  pub tagged : Tagged seen start top below tag.name tag.names space
  pub is_space : IsSpace space
  pub some : spaced ≡ true → ¬ (space ≡ [])
  pub none : spaced ≡ false → space ≡ []
  pub behind : spaced ≡ false → ¬ (tag.names ≡ [])

pub record AtSlash (seen : List ℕ) (start : ℕ) (top : Open) (below : List Open) (tag : Tag) : Type 0 where
  pub space : List ℕ
  pub tagged : Tagged seen start top below tag.name tag.names (space ++ 47 ∷ [])
  pub is_space : IsSpace space

pub record InName (piece : List ℕ) (seen : List ℕ) (start : ℕ) (top : Open) (below : List Open) (tag : Tag) : Type 0 where
  pub gap : List ℕ
  pub tagged : Tagged seen start top below tag.name tag.names (gap ++ piece)
  pub is_gap : IsGap gap
  pub is_name : IsName piece

-- behind the name of an attribute stands this rest
pub record Naming (seen : List ℕ) (start : ℕ) (top : Open) (below : List Open) (tag : Tag) (rest : List ℕ) : Type 0 where
  pub gap : List ℕ
  pub name : List ℕ
  pub names : List (List ℕ)
  pub tagged : Tagged seen start top below tag.name names (gap ++ (name ++ rest))
  pub is_gap : IsGap gap
  pub is_name : IsName name
  pub distinct : AreDistinct (names ++ name ∷ [])
  pub named : tag.names ≡ names ++ name ∷ []

pub record BehindName (seen : List ℕ) (start : ℕ) (top : Open) (below : List Open) (tag : Tag) : Type 0 where
  pub space : List ℕ
  pub naming : Naming seen start top below tag space
  pub is_space : IsSpace space
  pub some : ¬ (space ≡ [])

pub record BehindEquals (seen : List ℕ) (start : ℕ) (top : Open) (below : List Open) (tag : Tag) : Type 0 where
  pub before : List ℕ
  pub after : List ℕ
  pub naming : Naming seen start top below tag (before ++ (61 ∷ after))
  pub is_before : IsSpace before
  pub is_after : IsSpace after

-- in a value, behind what was written of it stands this rest
pub record InValue (quote : Quote) (seen : List ℕ) (start : ℕ) (top : Open) (below : List Open) (tag : Tag) (rest : List ℕ) : Type 0 where
  pub before : List ℕ
  pub after : List ℕ
  pub written : List ℕ
  pub value : List ℕ
  pub naming : Naming seen start top below tag (before ++ (61 ∷ after ++ (quote_byte quote ∷ written ++ rest)))
  pub is_before : IsSpace before
  pub is_after : IsSpace after
  pub is_value : IsValue quote written value

-- what holds in a mode
abbrev pub AtMode : Mode → List ℕ → ℕ → ℕ → List ℕ → Tag → Declaration → Open → List Open → Type 0
AtMode modes.Content seen start line piece tag declaration top below = is_none below ≡ true → EndsLow seen
AtMode modes.Start seen start line piece tag declaration top below = (seen ≡ []) × (declaration ≡ nothing_declared) × (below ≡ [])
AtMode modes.FirstMarkup seen start line piece tag declaration top below = Begun seen start top below (60 ∷ []) × (seen ≡ 60 ∷ []) × (start ≡ 1) × (declaration ≡ nothing_declared)
AtMode modes.Markup seen start line piece tag declaration top below = Begun seen start top below (60 ∷ [])
AtMode modes.Exclamation seen start line piece tag declaration top below = Begun seen start top below (60 ∷ 33 ∷ [])
AtMode (modes.Beginning opening count) seen start line piece tag declaration top below = Begun seen start top below (60 ∷ 33 ∷ take count (opening_text opening)) × (0 < count) × (count < length (opening_text opening))
AtMode (modes.Comment before) seen start line piece tag declaration top below = UpToMark (60 ∷ 33 ∷ opening_text openings.Comment) 45 before seen start below
AtMode (modes.Section before) seen start line piece tag declaration top below = UpToMark (60 ∷ 33 ∷ opening_text openings.Section) 93 before seen start below × (is_none below ≡ false)
AtMode (modes.Instruction question) seen start line piece tag declaration top below = UpToQuestion question seen start top below
AtMode (modes.FirstInstruction question) seen start line piece tag declaration top below = Instructed seen start question declaration
AtMode modes.EndName seen start line piece tag declaration top below = Ended seen start top below piece
AtMode modes.AfterEndName seen start line piece tag declaration top below = BehindEnd seen start top below
AtMode modes.StartName seen start line piece tag declaration top below = Begun seen start top below (60 ∷ piece) × IsName piece × BeginsTag piece × (is_closed top below ≡ false)
AtMode (modes.Tag spaced) seen start line piece tag declaration top below = InTag spaced seen start top below tag
AtMode modes.EmptyTag seen start line piece tag declaration top below = AtSlash seen start top below tag
AtMode modes.AttributeName seen start line piece tag declaration top below = InName piece seen start top below tag
AtMode modes.AfterAttributeName seen start line piece tag declaration top below = BehindName seen start top below tag
AtMode modes.BeforeValue seen start line piece tag declaration top below = BehindEquals seen start top below tag
AtMode (modes.Value quote) seen start line piece tag declaration top below = InValue quote seen start top below tag []
AtMode (modes.Reference homes.Text) seen start line piece tag declaration top below = (Referred seen line (38 ∷ piece) × AreReferenceBytes piece) × (Begun seen line top below (38 ∷ piece) × (is_none below ≡ false))
AtMode (modes.Reference (homes.Value quote)) seen start line piece tag declaration top below = (Referred seen line (38 ∷ piece) × AreReferenceBytes piece) × InValue quote seen start top below tag (38 ∷ piece)

pub record Holds (seen : List ℕ) (r : Reader) : Type 0 where
  pub stacked : Stacked r.top r.below
  pub here : AtMode r.mode seen r.start r.reference_line r.piece r.tag r.declaration r.top r.below

-- these bytes stand in a text or in a value
abbrev pub IsInHome : Home → List ℕ → Reader → List ℕ → Type 0
IsInHome homes.Text seen r rest = Begun seen r.reference_line r.top r.below rest × (is_none r.below ≡ false)
IsInHome (homes.Value quote) seen r rest = InValue quote seen r.start r.top r.below r.tag rest

pub record Refers (seen : List ℕ) (line : ℕ) (bytes : List ℕ) : Type 0 where
  pub referred : Referred seen line bytes
  pub home : Home
  pub reader : Reader
  pub is_line : reader.reference_line ≡ line
  pub place : IsInHome home seen reader bytes

-- ---- what is at fault

pub record Mismatches (seen : List ℕ) (line : ℕ) : Type 0 where
  pub name : List ℕ
  pub next : ℕ
  pub top : Open
  pub below : List Open
  pub begun : Begun seen line top below (60 ∷ 47 ∷ name ++ next ∷ [])
  pub inside : is_none below ≡ false
  pub is_name : IsName name
  pub ends : is_name_byte next ≡ false
  pub other : ¬ (name ≡ top.name)

pub record Deepens (seen : List ℕ) (line : ℕ) : Type 0 where
  pub name : List ℕ
  pub next : ℕ
  pub top : Open
  pub below : List Open
  pub begun : Begun seen line top below (60 ∷ name ++ next ∷ [])
  pub is_name : IsName name
  pub begins : BeginsTag name
  pub ends : is_name_byte next ≡ false
  pub many : 64 ≤ length below

pub record Encodes (seen : List ℕ) (line : ℕ) : Type 0 where
  pub inside : List ℕ
  pub split : seen ≡ 60 ∷ 63 ∷ inside ++ 62 ∷ []
  pub ends : EndsQuestion false (inside ++ 62 ∷ [])
  pub foreign : is_foreign (known nothing_declared inside) ≡ true
  pub first : line ≡ 1

pub record NamesNothing (seen : List ℕ) (line : ℕ) : Type 0 where
  pub name : List ℕ
  pub refers : Refers seen line (38 ∷ name ++ 59 ∷ [])
  pub are : AreReferenceBytes name
  pub some : ¬ (name ≡ [])
  pub no_entity : entity name ≡ None
  pub no_number : number_of name ≡ None

pub record Misnames (seen : List ℕ) (line : ℕ) : Type 0 where
  pub ending : List ℕ
  pub bytes : List ℕ
  pub name : List ℕ
  pub id : Option (List ℕ)
  pub top : Open
  pub below : List Open
  pub begun : Begun seen line top below bytes
  pub outside : is_none below ≡ true
  pub first : is_closed top below ≡ false
  pub is_ending : (ending ≡ 62 ∷ []) ⊎ (ending ≡ 47 ∷ 62 ∷ [])
  pub is_tag : IsTag ending bytes name id
  pub other : ¬ (local_name name ≡ root_name)

pub data Misplaces (seen : List ℕ) (line : ℕ) : Type 0 where
  control : (before : List ℕ) (byte : ℕ) → seen ≡ before ++ byte ∷ [] → is_control byte ≡ true → line ≡ line_behind 1 before → Misplaces seen line
  markup : (top : Open) (below : List Open) (bytes : List ℕ) → Begun seen line top below bytes → IsBadMarkup (open_names top below) bytes → Misplaces seen line
  no_tag : (top : Open) (below : List Open) (name : List ℕ) (names : List (List ℕ)) (rest : List ℕ) → Tagged seen line top below name names rest → IsBadRest names rest → Misplaces seen line
  second_root : (top : Open) (below : List Open) (byte : ℕ) → Begun seen line top below (60 ∷ byte ∷ []) → is_closed top below ≡ true → is_name_byte byte ≡ true → ¬ (byte ≡ 33) → ¬ (byte ≡ 63) → Misplaces seen line
  reference : (bytes : List ℕ) → Refers seen line (38 ∷ bytes) → IsBadReference bytes → Misplaces seen line

abbrev pub Fails : ElementKind → List ℕ → ℕ → Type 0
Fails kinds.NotUtf8 seen line = ⊥
Fails kinds.Form seen line = Misnames seen line
Fails kinds.BadMarkup seen line = Misplaces seen line
Fails kinds.TooDeep seen line = Deepens seen line
Fails kinds.Unclosed seen line = ⊥
Fails kinds.Mismatched seen line = Mismatches seen line
Fails kinds.Doctype seen line = (top : Open) × (below : List Open) × Begun seen line top below (60 ∷ 33 ∷ opening_text openings.Doctype)
Fails kinds.Encoding seen line = Encodes seen line
Fails kinds.Entity seen line = NamesNothing seen line

abbrev pub Goes : List ℕ → Result Reader ElementFault → Type 0
Goes seen (Ok r) = Holds seen r
Goes seen (Err f) = Fails f.kind seen f.line

-- ---- tests

pub when : {A : Type 0} (P : A → Type 0) (test : Bool) (x y : A) → (test ≡ true → P x) → (test ≡ false → P y) → P (if test then x else y)
when P true x y f g = f refl
when P false x y f g = g refl

pub past : (seen : List ℕ) (f : ElementFault) (test : Bool) (rest : Result Reader ElementFault) → (test ≡ true → Fails f.kind seen f.line) → (test ≡ false → Goes seen rest) → Goes seen (refuse f test >>= λ _. rest)
past seen f true rest fails goes = fails refl
past seen f false rest fails goes = goes refl

pub not-true : (test : Bool) → not test ≡ true → test ≡ false
not-true true e = absurd cc
not-true false e = refl

-- ---- one more byte

pub more_names : (bytes : List ℕ) (byte : ℕ) → AreNameBytes bytes → is_name_byte byte ≡ true → AreNameBytes (bytes ++ byte ∷ [])
more_names [] byte all is = (is, tt)
more_names (first ∷ bytes) byte all is = (all.0, more_names bytes byte all.1 is)

pub more_of_reference : (bytes : List ℕ) (byte : ℕ) → AreReferenceBytes bytes → is_name_byte byte ≡ true → ¬ (byte ≡ 59) → AreReferenceBytes (bytes ++ byte ∷ [])
more_of_reference [] byte all is other = ((is, other), tt)
more_of_reference (first ∷ bytes) byte all is other = (all.0, more_of_reference bytes byte all.1 is other)

pub some_more : (bytes : List ℕ) (byte : ℕ) → ¬ (bytes ++ byte ∷ [] ≡ [])
some_more [] byte = λ e. absurd cc
some_more (first ∷ bytes) byte = λ e. absurd cc

pub longer_name : (bytes : List ℕ) (byte : ℕ) → AreNameBytes bytes → is_name_byte byte ≡ true → IsName (bytes ++ byte ∷ [])
longer_name bytes byte all is = (more_names bytes byte all is, some_more bytes byte)

pub some_name : (bytes : List ℕ) → is_none bytes ≡ false → ¬ (bytes ≡ [])
some_name [] e = absurd cc
some_name (byte ∷ bytes) e = λ none. absurd cc

pub begins_more : (bytes : List ℕ) (byte : ℕ) → BeginsTag bytes → BeginsTag (bytes ++ byte ∷ [])
begins_more [] byte h = absurd h
begins_more (first ∷ bytes) byte h = h

pub longer : (seen : List ℕ) (line : ℕ) (top : Open) (below : List Open) (piece : List ℕ) (byte : ℕ) → Begun seen line top below piece → Begun (seen ++ byte ∷ []) line top below (piece ++ byte ∷ [])
longer seen line top below piece byte b = record {
  front = b.front;
  mode = b.mode;
  like = b.like;
  reads = b.reads;
  between = b.between;
  stacked = b.stacked;
  split = ap (λ (xs : List ℕ). xs ++ byte ∷ []) b.split ∙ append_assoc b.front piece (byte ∷ []);
}

pub longer_by : (seen : List ℕ) (line : ℕ) (top : Open) (below : List Open) (piece : List ℕ) (byte other : ℕ) → (byte == other) ≡ true → Begun seen line top below piece → Begun (seen ++ byte ∷ []) line top below (piece ++ other ∷ [])
longer_by seen line top below piece byte other e b = subst (λ n. Begun (seen ++ byte ∷ []) line top below (piece ++ n ∷ [])) (eqb-true byte other e) (longer seen line top below piece byte b)

pub further : (seen : List ℕ) (line : ℕ) (piece : List ℕ) (byte : ℕ) → Referred seen line piece → Referred (seen ++ byte ∷ []) line (piece ++ byte ∷ [])
further seen line piece byte b = record {
  before = b.before;
  split = ap (λ (xs : List ℕ). xs ++ byte ∷ []) b.split ∙ append_assoc b.before piece (byte ∷ []);
  is_line = b.is_line;
}

-- a construct begins behind what was read
pub begins_at : (seen : List ℕ) (r : Reader) (byte : ℕ) → IsReached seen r → IsBetween seen r.mode r.below → Stacked r.top r.below → Begun (seen ++ byte ∷ []) r.line r.top r.below (byte ∷ [])
begins_at seen r byte reached between stacked = record {
  front = seen;
  mode = r.mode;
  like = r;
  reads = reached;
  between = between;
  stacked = stacked;
  split = refl;
}

pub begins : (seen : List ℕ) (r : Reader) (byte other : ℕ) → IsReached seen r → IsBetween seen r.mode r.below → Stacked r.top r.below → (byte == other) ≡ true → Begun (seen ++ byte ∷ []) r.line r.top r.below (other ∷ [])
begins seen r byte other reached between stacked e = subst (λ n. Begun (seen ++ byte ∷ []) r.line r.top r.below (n ∷ [])) (eqb-true byte other e) (begins_at seen r byte reached between stacked)

pub no_names : (top : Open) (below : List Open) → is_none below ≡ true → [] ≡ open_names top below
no_names top [] e = refl
no_names top (around ∷ outer) e = absurd cc

-- what is bad outside the root
pub bad_outside : (seen : List ℕ) (line : ℕ) (top : Open) (below : List Open) (bytes : List ℕ) → is_none below ≡ true → Begun seen line top below bytes → IsBadMarkup [] bytes → Misplaces seen line
bad_outside seen line top below bytes e b bad = Misplaces.markup top below bytes b (subst (λ (names : List (List ℕ)). IsBadMarkup names bytes) (no_names top below e) bad)

pub refers : (seen : List ℕ) (r : Reader) (byte : ℕ) → IsReached seen r → (byte == 38) ≡ true → Referred (seen ++ byte ∷ []) r.line (38 ∷ [])
refers seen r byte reached e = record { before = seen; split = ap (λ n. seen ++ n ∷ []) (eqb-true byte 38 e); is_line = lines_are_counted seen r reached }
