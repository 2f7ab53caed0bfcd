-- What `clap` says of the command of a page is what its words give.
use Rattle.std.proofs.Common.{◌≡◌, ◌∙◌, refl, ap, arith, true, false, List, [], ◌∷◌, length, ◌==◌, Option, None, codes}
use Rattle.std.specs.Option.{option_map}
use Rattle.clap.specs.Words.{Text, Kinds, IsAmong, fault_of, is_simple, is_simple_and_free, matches_of, rows_of, first_of, all_of, first_value, matched_of, raw_values}
use Rattle.clap.specs.declared.error.kind.ErrorKind.{ErrorKind}
use Rattle.clap.specs.declared.parser.matches.Found.{Found}
use Rattle.clap.proofs.OnLiterals.{clap_on_literals}
use Rattle.clap.proofs.WalkLemmas.{first_value-rows, raw_values-rows}
use Rattle.ror_show_words.specs.Words.{named_app, single_app, page_app, words_of, given_in, check_app, check_words_of, check_in, sheet_app, sheet_words_of, sheet_in, import_app, import_words_of, import_in}

pub simple : is_simple page_app ≡ true
unfolding page_app single_app named_app clap_on_literals
simple = refl

pub free : is_simple_and_free page_app ≡ true
unfolding page_app single_app named_app clap_on_literals
free = refl

same_words : (f g : Text → Option Text) (fs gs : Text → Option (List Text)) → ((id : Text) → f id ≡ g id) → ((id : Text) → fs id ≡ gs id) → words_of f fs ≡ words_of g gs
same_words f g fs gs same sames = rw (same (codes "TABLE"), same (codes "SESSION"), same (codes "REPORT"), same (codes "best-first"), same (codes "line"), same (codes "desk"), same (codes "as"), sames (codes "pair")) refl

-- the command takes the words: what is found in them is what they give
pub taken : (words : List Text) (found : Found) → fault_of page_app words ≡ [] → rows_of found ≡ matches_of page_app words → words_of (first_value found) (λ id. option_map raw_values (matched_of found id)) ≡ given_in words
unfolding given_in
taken words found none same =
    rw none (same_words (first_value found) (λ id. first_of id (matches_of page_app words)) (λ id. option_map raw_values (matched_of found id)) (λ id. all_of id (matches_of page_app words)) (λ id. first_value-rows found id ∙ ap (first_of id) same) (λ id. raw_values-rows found id ∙ ap (all_of id) same))

some_kind : (k : ErrorKind) (ks : Kinds) → IsAmong k ks → (length ks == 0) ≡ false
some_kind k [] among = absurd among
some_kind k (x ∷ xs) among = grind arith

-- the command has a fault in them: they give nothing
pub refused : (words : List Text) (k : ErrorKind) → IsAmong k (fault_of page_app words) → given_in words ≡ None
unfolding given_in
refused words k among = rw (some_kind k (fault_of page_app words) among) refl

-- ---- the same of the page of what was read

pub sheet-simple : is_simple sheet_app ≡ true
unfolding sheet_app clap_on_literals
sheet-simple = refl

pub sheet-free : is_simple_and_free sheet_app ≡ true
unfolding sheet_app clap_on_literals
sheet-free = refl

same_names : (f g : Text → Option Text) → ((id : Text) → f id ≡ g id) → sheet_words_of f ≡ sheet_words_of g
same_names f g same = rw (same (codes "TABLE"), same (codes "SESSION"), same (codes "best-first")) refl

pub sheet-taken : (words : List Text) (found : Found) → fault_of sheet_app words ≡ [] → rows_of found ≡ matches_of sheet_app words → sheet_words_of (first_value found) ≡ sheet_in words
unfolding sheet_in
sheet-taken words found none same =
    rw none (same_names (first_value found) (λ id. first_of id (matches_of sheet_app words)) (λ id. first_value-rows found id ∙ ap (first_of id) same))

pub sheet-refused : (words : List Text) (k : ErrorKind) → IsAmong k (fault_of sheet_app words) → sheet_in words ≡ None
unfolding sheet_in
sheet-refused words k among = rw (some_kind k (fault_of sheet_app words) among) refl

-- ---- the same of the check of certificates

pub check-simple : is_simple check_app ≡ true
unfolding check_app named_app clap_on_literals
check-simple = refl

pub check-free : is_simple_and_free check_app ≡ true
unfolding check_app named_app clap_on_literals
check-free = refl

same_files : (f g : Text → Option Text) → ((id : Text) → f id ≡ g id) → check_words_of f ≡ check_words_of g
same_files f g same = rw (same (codes "TABLE"), same (codes "SESSION"), same (codes "REPORT"), same (codes "CERTIFICATES"), same (codes "best-first")) refl

pub check-taken : (words : List Text) (found : Found) → fault_of check_app words ≡ [] → rows_of found ≡ matches_of check_app words → check_words_of (first_value found) ≡ check_in words
unfolding check_in
check-taken words found none same =
    rw none (same_files (first_value found) (λ id. first_of id (matches_of check_app words)) (λ id. first_value-rows found id ∙ ap (first_of id) same))

pub check-refused : (words : List Text) (k : ErrorKind) → IsAmong k (fault_of check_app words) → check_in words ≡ None
unfolding check_in
check-refused words k among = rw (some_kind k (fault_of check_app words) among) refl

-- ---- the same of the table of a spreadsheet

pub import-simple : is_simple import_app ≡ true
unfolding import_app clap_on_literals
import-simple = refl

pub import-free : is_simple_and_free import_app ≡ true
unfolding import_app clap_on_literals
import-free = refl

same_options : (f g : Text → Option Text) → ((id : Text) → f id ≡ g id) → import_words_of f ≡ import_words_of g
same_options f g same = rw (same (codes "FILE"), same (codes "min"), same (codes "max"), same (codes "linear")) refl

pub import-taken : (words : List Text) (found : Found) → fault_of import_app words ≡ [] → rows_of found ≡ matches_of import_app words → import_words_of (first_value found) ≡ import_in words
unfolding import_in
import-taken words found none same =
    rw none (same_options (first_value found) (λ id. first_of id (matches_of import_app words)) (λ id. first_value-rows found id ∙ ap (first_of id) same))

pub import-refused : (words : List Text) (k : ErrorKind) → IsAmong k (fault_of import_app words) → import_in words ≡ None
unfolding import_in
import-refused words k among = rw (some_kind k (fault_of import_app words) among) refl
