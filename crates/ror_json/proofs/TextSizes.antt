-- A report that is read of a text has no more blocks than the text has bytes.
use Rattle.std.proofs.Common.{◌≡◌, ℕ, zero, suc, ◌+◌, ◌≤◌, List, [], ◌∷◌, ◌++◌, length, map, Bool, true, false, Option, Some, None, option_and_then, option_map, nat_cmp, Ordering, Less, Equal, Greater, refl, sym, ap, subst, ◌∙◌, arith, length-append}
use Rattle.std.proofs.lemmas.List.{length-map}
use Rattle.std.specs.Ordering.{match_ordering}
use Rattle.std.specs.Cmp.Lexicographic.{slice_cmp}
use Rattle.json.specs.Json as json
use Rattle.json.specs.Lex.{Class, Mode, Lexeme, Place, lex, lex_byte, class, punctuate, tokens, begins_colon, place_token, if_allowed}
use Rattle.json.specs.Lex as lexed
use Rattle.json.specs.Token.{Token}
use Rattle.json.specs.Token as token
use Rattle.json.specs.Tree.{json_tokens, items_tokens, members_tokens}
use Rattle.json.proofs.Unique.Spelling.{value-json_tokens_back}
use Rattle.serde_json.specs.Data.{Data, null, boolean, number, string, array, object, Items, no_items, item, Members, no_members, member, put}
use Rattle.serde_json.specs.Read.{of_json, of_items, of_members, max_depth, number_of, read}
use Rattle.serde_json.specs.View.{items_of}
use Rattle.ror_table.specs.Table.{DecisionTable}
use Rattle.ror_report.specs.declared.block.Block.{Block}
use Rattle.ror_json.specs.Form.{block_form, outer_form, report_form}
use Rattle.ror_json.specs.Shapes.{IsBadShape}

-- ---- lexemes and tokens

fewer_lexemes : (m : Mode) (c : Class) (x : ℕ) (xs : List ℕ) → ((next : Mode) → length (lex next xs) ≤ length xs) → length (lex_byte m c x xs (λ next. lex next xs)) ≤ suc (length xs)
fewer_lexemes lexed.between lexed.quote x xs h = omega (arith, h lexed.in_string)
fewer_lexemes lexed.between lexed.backslash x xs h = omega (arith, h lexed.in_word)
fewer_lexemes lexed.between lexed.operator x xs h = omega (arith, h lexed.between)
fewer_lexemes lexed.between lexed.space x xs h = omega (arith, h lexed.between)
fewer_lexemes lexed.between lexed.other x xs h = omega (arith, h lexed.in_word)
fewer_lexemes lexed.in_word lexed.quote x xs h = omega (arith, h lexed.in_word)
fewer_lexemes lexed.in_word lexed.backslash x xs h = omega (arith, h lexed.in_word)
fewer_lexemes lexed.in_word lexed.operator x xs h = omega (arith, h lexed.between)
fewer_lexemes lexed.in_word lexed.space x xs h = omega (arith, h lexed.between)
fewer_lexemes lexed.in_word lexed.other x xs h = omega (arith, h lexed.in_word)
fewer_lexemes lexed.in_string lexed.quote x xs h = omega (arith, h lexed.between)
fewer_lexemes lexed.in_string lexed.backslash x xs h = omega (arith, h lexed.in_escape)
fewer_lexemes lexed.in_string lexed.operator x xs h = omega (arith, h lexed.in_string)
fewer_lexemes lexed.in_string lexed.space x xs h = omega (arith, h lexed.in_string)
fewer_lexemes lexed.in_string lexed.other x xs h = omega (arith, h lexed.in_string)
fewer_lexemes lexed.in_escape c x xs h = omega (arith, h lexed.in_string)

few_lexemes : (m : Mode) (xs : List ℕ) → length (lex m xs) ≤ length xs
unfolding lex
few_lexemes m [] = omega arith
few_lexemes m (x ∷ xs) = fewer_lexemes m (class x) x xs (λ next. few_lexemes next xs)

allowed_few : (n : ℕ) (b : Bool) (t : Token) (k : Place → List Token) (next : Place) → length (k next) ≤ suc n → length (if_allowed b t k next) ≤ suc (suc n)
allowed_few n true t k next h = omega (arith, h)
allowed_few n false t k next h = omega arith

placed_few : (n : ℕ) (p : Place) (t : Token) (before_colon : Bool) (k : Place → List Token) → ((next : Place) → length (k next) ≤ suc n) → length (place_token p t before_colon k) ≤ suc (suc n)
placed_few n p token.begin_object b k h = allowed_few n _ _ k lexed.fresh (h lexed.fresh)
placed_few n p token.end_object b k h = allowed_few n _ _ k lexed.after_value (h lexed.after_value)
placed_few n p token.begin_array b k h = allowed_few n _ _ k lexed.fresh (h lexed.fresh)
placed_few n p token.end_array b k h = allowed_few n _ _ k lexed.after_value (h lexed.after_value)
placed_few n p (token.key s) b k h = omega arith
placed_few n p (token.string s) true k h = allowed_few n _ _ k lexed.after_key (h lexed.after_key)
placed_few n p (token.string s) false k h = allowed_few n _ _ k lexed.after_value (h lexed.after_value)
placed_few n p (token.number s) b k h = allowed_few n _ _ k lexed.after_value (h lexed.after_value)
placed_few n p (token.boolean s) b k h = allowed_few n _ _ k lexed.after_value (h lexed.after_value)
placed_few n p token.null b k h = allowed_few n _ _ k lexed.after_value (h lexed.after_value)
placed_few n p token.bad b k h = omega arith

few_tokens : (p : Place) (ls : List Lexeme) → length (punctuate p ls) ≤ suc (length ls)
unfolding punctuate
few_tokens lexed.fresh [] = omega arith
few_tokens lexed.after_value [] = omega arith
few_tokens lexed.after_comma [] = omega arith
few_tokens lexed.after_key [] = omega arith
few_tokens lexed.fresh (lexed.token t ∷ ls) = placed_few (length ls) lexed.fresh t (begins_colon ls) (λ next. punctuate next ls) (λ next. few_tokens next ls)
few_tokens lexed.after_value (lexed.token t ∷ ls) = placed_few (length ls) lexed.after_value t (begins_colon ls) (λ next. punctuate next ls) (λ next. few_tokens next ls)
few_tokens lexed.after_comma (lexed.token t ∷ ls) = placed_few (length ls) lexed.after_comma t (begins_colon ls) (λ next. punctuate next ls) (λ next. few_tokens next ls)
few_tokens lexed.after_key (lexed.token t ∷ ls) = placed_few (length ls) lexed.after_key t (begins_colon ls) (λ next. punctuate next ls) (λ next. few_tokens next ls)
few_tokens lexed.fresh (lexed.comma ∷ ls) = omega arith
few_tokens lexed.after_value (lexed.comma ∷ ls) = omega (arith, few_tokens lexed.after_comma ls)
few_tokens lexed.after_comma (lexed.comma ∷ ls) = omega arith
few_tokens lexed.after_key (lexed.comma ∷ ls) = omega arith
few_tokens lexed.fresh (lexed.colon ∷ ls) = omega arith
few_tokens lexed.after_value (lexed.colon ∷ ls) = omega arith
few_tokens lexed.after_comma (lexed.colon ∷ ls) = omega arith
few_tokens lexed.after_key (lexed.colon ∷ ls) = omega (arith, few_tokens lexed.fresh ls)

tokens_of_text : (text : List ℕ) → length (tokens text) ≤ suc (length text)
tokens_of_text text = omega (arith, few_tokens lexed.fresh (lex lexed.between text), few_lexemes lexed.between text)

-- ---- items of all arrays inside

abbrev mutual
  count : Data → ℕ
  count null = 0
  count (boolean b) = 0
  count (number n) = 0
  count (string s) = 0
  count (array ds) = items_count ds
  count (object ms) = members_count ms

  items_count : Items → ℕ
  items_count no_items = 0
  items_count (item d ds) = suc (count d + items_count ds)

  members_count : Members → ℕ
  members_count no_members = 0
  members_count (member k d ms) = count d + members_count ms

put_adds : (k : List ℕ) (d : Data) (ms : Members) → members_count (put k d ms) ≤ count d + members_count ms
put_adds k d no_members = omega arith
put_adds k d (member l e ms) = by (slice_cmp nat_cmp k l) (put_adds k d ms)
  where
    by : (r : Ordering) → members_count (put k d ms) ≤ count d + members_count ms → members_count (match_ordering r (member k d (member l e ms)) (member l d ms) (member l e (put k d ms))) ≤ count d + (count e + members_count ms)
    by Less h = omega arith
    by Equal h = omega arith
    by Greater h = omega (arith, h)

mapped : {A B : Type 0} (f : A → B) (o : Option A) (b : B) → option_map f o ≡ Some b → (a : A) × (o ≡ Some a) × (b ≡ f a)
mapped f None b e = absurd cc
mapped f (Some a) b e = (a, refl, cc)

bound : {A B : Type 0} (f : A → Option B) (o : Option A) (b : B) → option_and_then f o ≡ Some b → (a : A) × (o ≡ Some a) × (f a ≡ Some b)
bound f None b e = absurd cc
bound f (Some a) b e = (a, refl, e)

abbrev some : {A : Type 0} → A → Option A
some x = Some x

some_is : {A : Type 0} (x y : A) → some x ≡ some y → y ≡ x
some_is x y e = cc

mutual
  few_items : (j : json.Json) (d : Data) → of_json j ≡ Some d → suc (count d) ≤ length (json_tokens j)
  few_items json.null d e = subst (λ (y : Data). suc (count y) ≤ 1) (sym (some_is null d e)) (omega arith)
  few_items (json.boolean b) d e = subst (λ (y : Data). suc (count y) ≤ 1) (sym (some_is (boolean b) d e)) (omega arith)
  few_items (json.number s) d e = let n = mapped number (number_of s) d e in subst (λ (y : Data). suc (count y) ≤ 1) (sym n.2) (omega arith)
  few_items (json.string s) d e = subst (λ (y : Data). suc (count y) ≤ 1) (sym (some_is (string s) d e)) (omega arith)
  few_items (json.array js) d e =
      let ds = mapped array (of_items js) d e in
      subst (λ (y : Data). suc (count y) ≤ suc (length (items_tokens js))) (sym ds.2) (omega (arith, few_in_items js ds.0 ds.1))
  few_items (json.object ms) d e =
      let ds = mapped object (of_members ms no_members) d e in
      subst (λ (y : Data). suc (count y) ≤ suc (length (members_tokens ms))) (sym ds.2) (omega (arith, few_in_members ms no_members ds.0 ds.1))

  few_in_items : (js : json.Items) (ds : Items) → of_items js ≡ Some ds → items_count ds ≤ length (items_tokens js)
  few_in_items json.no_items ds e = subst (λ (y : Items). items_count y ≤ 1) (sym (some_is no_items ds e)) (omega arith)
  few_in_items (json.item j js) ds e =
      let d = bound (λ d. option_map (item d) (of_items js)) (of_json j) ds e in
      let rest = mapped (item d.0) (of_items js) ds d.2 in
      let size = length-append (json_tokens j) (items_tokens js) in
      subst (λ (y : Items). items_count y ≤ length (json_tokens j ++ items_tokens js)) (sym rest.2) (omega (arith, size, few_items j d.0 d.1, few_in_items js rest.0 rest.1))

  few_in_members : (ms : json.Members) (found ds : Members) → of_members ms found ≡ Some ds → members_count ds ≤ length (members_tokens ms) + members_count found
  few_in_members json.no_members found ds e = subst (λ (y : Members). members_count y ≤ 1 + members_count found) (sym (some_is found ds e)) (omega arith)
  few_in_members (json.member k j ms) found ds e =
      let d = bound (λ d. of_members ms (put k d found)) (of_json j) ds e in
      let size = length-append (json_tokens j) (members_tokens ms) in
      omega (arith, size, few_items j d.0 d.1, put_adds k d.0 found, few_in_members ms (put k d.0 found) ds d.2)

-- ---- whole texts

last_is : (p : Option (json.Json × List Token)) (j : json.Json) → option_and_then (λ p. json.if_last p.0 p.1) p ≡ Some j → p ≡ Some (j, [])
last_is None j e = absurd cc
last_is (Some (i, [])) j e = ap (λ k. Some (k, [])) (sym (some_is i j e))
last_is (Some (i, t ∷ ts)) j e = absurd cc

few_in_text : (text : List ℕ) (d : Data) → read text ≡ Some d → count d ≤ length text
few_in_text text d e =
    let j = bound of_json (option_and_then (λ p. json.if_last p.0 p.1) (json.value max_depth (tokens text))) d e in
    let whole = last_is (json.value max_depth (tokens text)) j.0 j.1 in
    let same : length (tokens text) ≡ length (json_tokens j.0 ++ []) = ap length (value-json_tokens_back max_depth (tokens text) [] j.0 whole) in
    omega (arith, same, length-append (json_tokens j.0) [], few_items j.0 d j.2, tokens_of_text text)

items_within : (xs : List Data) → length xs ≤ items_count (items_of xs)
items_within [] = omega arith
items_within (x ∷ xs) = omega (arith, items_within xs)

few_around : (text : List ℕ) (items : List Data) → read text ≡ Some (outer_form items) → length items ≤ length text
few_around text items e = omega (arith, items_within items, few_in_text text (outer_form items) e)

pub few_blocks : (t : DecisionTable) (text : List ℕ) (blocks : List Block) → read text ≡ Some (report_form t blocks) → length blocks ≤ length text
few_blocks t text blocks e = omega (arith, few_around text (map (block_form t) blocks) e, length-map blocks (block_form t))

pub bad_block_within : (t : DecisionTable) (text : List ℕ) (d : Data) (k : ℕ) → read text ≡ Some d → IsBadShape t d k → k ≤ length text
bad_block_within t text d zero e bad = omega arith
bad_block_within t text d (suc k) e bad =
    let front = map (block_form t) bad.before in
    let all = few_around text (front ++ bad.bad ∷ bad.after) (e ∙ ap some bad.items) in
    omega (arith, all, length-append front (bad.bad ∷ bad.after), length-map bad.before (block_form t), bad.place)
