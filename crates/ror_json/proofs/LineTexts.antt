-- A line feed behind a text that is printed changes no token of it.
use Rattle.std.proofs.Common.{◌≡◌, ℕ, Bool, true, false, cond, ◌&&◌, List, [], ◌∷◌, ◌++◌, refl, sym, ap, ap₂, ◌∙◌, append_assoc}
use Rattle.json.specs.Token.{Token, begin_object, end_object, begin_array, end_array, key, string, number, boolean, null, bad}
use Rattle.json.specs.Word.{ends_word, word}
use Rattle.json.specs.Lex.{Lexeme, token, comma, colon, string_token, lex, between, fresh, punctuate, tokens}
use Rattle.json.specs.Print.{escape, quoted, token_text, begins, ends, print_from, print, IsPrintable, ArePrintable}
use Rattle.json.proofs.Printed.Strings.{content-escape, lex-escape}
use Rattle.json.proofs.Printed.Numbers.{lex-number, in_word-ended}

abbrev line_feed : List ℕ
line_feed = 10 ∷ []

-- the lexemes of a token's text
abbrev lexemes : Token → List Lexeme
lexemes begin_object = token begin_object ∷ []
lexemes end_object = token end_object ∷ []
lexemes begin_array = token begin_array ∷ []
lexemes end_array = token end_array ∷ []
lexemes (key s) = token (string s) ∷ colon ∷ []
lexemes (string s) = token (string s) ∷ []
lexemes (number s) = token (number s) ∷ []
lexemes (boolean b) = token (boolean b) ∷ []
lexemes null = token null ∷ []
lexemes bad = []

-- behind a value stands what ends a word
value_ends : (ts : List Token) → ends_word (print_from true ts) ≡ true
unfolding print_from
value_ends [] = refl
value_ends (begin_object ∷ ts) = refl
value_ends (end_object ∷ ts) = refl
value_ends (begin_array ∷ ts) = refl
value_ends (end_array ∷ ts) = refl
value_ends (key s ∷ ts) = refl
value_ends (string s ∷ ts) = refl
value_ends (number s ∷ ts) = refl
value_ends (boolean b ∷ ts) = refl
value_ends (null ∷ ts) = refl
value_ends (bad ∷ ts) = refl

value_ends_line : (ts : List Token) → ends_word (print_from true ts ++ line_feed) ≡ true
unfolding print_from
value_ends_line [] = refl
value_ends_line (begin_object ∷ ts) = refl
value_ends_line (end_object ∷ ts) = refl
value_ends_line (begin_array ∷ ts) = refl
value_ends_line (end_array ∷ ts) = refl
value_ends_line (key s ∷ ts) = refl
value_ends_line (string s ∷ ts) = refl
value_ends_line (number s ∷ ts) = refl
value_ends_line (boolean b ∷ ts) = refl
value_ends_line (null ∷ ts) = refl
value_ends_line (bad ∷ ts) = refl

lex-quoted : (s r : List ℕ) → lex between (quoted s ++ r) ≡ token (string s) ∷ lex between r
unfolding lex
lex-quoted s r =
    let e = append_assoc (escape s) (34 ∷ []) r in
    ap (λ l. lex between (34 ∷ l)) e ∙ ap₂ (λ o l. token (string_token o) ∷ l) (content-escape s r) (lex-escape s r)

lex-token : (t : Token) (r : List ℕ) → IsPrintable t → (ends t ≡ true → ends_word r ≡ true) → lex between (token_text t ++ r) ≡ lexemes t ++ lex between r
unfolding lex word
lex-token begin_object r h ended = refl
lex-token end_object r h ended = refl
lex-token begin_array r h ended = refl
lex-token end_array r h ended = refl
lex-token (key s) r h ended = ap (lex between) (append_assoc (quoted s) (58 ∷ []) r) ∙ lex-quoted s (58 ∷ r)
lex-token (string s) r h ended = lex-quoted s r
lex-token (number s) r h ended = lex-number s r h (ended refl)
lex-token (boolean true) r h ended = ap₂ (λ b l. token (cond b (boolean true) bad) ∷ l) (ended refl) (in_word-ended r (ended refl))
lex-token (boolean false) r h ended = ap₂ (λ b l. token (cond b (boolean false) bad) ∷ l) (ended refl) (in_word-ended r (ended refl))
lex-token null r h ended = ap₂ (λ b l. token (cond b null bad) ∷ l) (ended refl) (in_word-ended r (ended refl))
lex-token bad r h ended = absurd h

lex-separator : (b : Bool) (r : List ℕ) → lex between (cond b (44 ∷ []) [] ++ r) ≡ cond b (comma ∷ []) [] ++ lex between r
unfolding lex
lex-separator true r = refl
lex-separator false r = refl

no_lexeme : lex between line_feed ≡ lex between []
unfolding lex
no_lexeme = refl

lex-line : (c : Bool) (ts : List Token) → ArePrintable ts → lex between (print_from c ts ++ line_feed) ≡ lex between (print_from c ts)
unfolding print_from ArePrintable
lex-line c [] h = no_lexeme
lex-line c (t ∷ ts) h =
    let rest = print_from (ends t) ts in
    let before = cond (c && begins t) (44 ∷ []) [] in
    let split : (before ++ (token_text t ++ rest)) ++ line_feed ≡ before ++ (token_text t ++ (rest ++ line_feed)) = append_assoc before (token_text t ++ rest) line_feed ∙ ap (λ l. before ++ l) (append_assoc (token_text t) rest line_feed) in
    ap (lex between) split
    ∙ lex-separator (c && begins t) (token_text t ++ (rest ++ line_feed))
    ∙ ap (λ l. cond (c && begins t) (comma ∷ []) [] ++ l)
    (lex-token t (rest ++ line_feed) h.0 (λ e. ap (λ b. ends_word (print_from b ts ++ line_feed)) e ∙ value_ends_line ts)
    ∙ ap (λ l. lexemes t ++ l) (lex-line (ends t) ts h.1)
    ∙ sym (lex-token t rest h.0 (λ e. ap (λ b. ends_word (print_from b ts)) e ∙ value_ends ts)))
    ∙ sym (lex-separator (c && begins t) (token_text t ++ rest))

pub tokens-line : (ts : List Token) → ArePrintable ts → tokens (print ts ++ line_feed) ≡ tokens (print ts)
tokens-line ts h = ap (punctuate fresh) (lex-line false ts h)
