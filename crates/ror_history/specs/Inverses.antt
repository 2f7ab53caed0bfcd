-- What takes a revision back on the chain that it left, when it can, and which revisions and opening list a chain and its
-- inverses stand for.
use Rattle.std.specs.Prelude.{◌≡◌, ℕ, ◌-◌, ◌≤◌, suc, List, [], ◌∷◌, ◌++◌, map, take, length, reverse, slice_index_or}
use Rattle.ror_statement.specs.declared.row_number.TheConstants.{MOST_STATEMENTS, MOST_ROWS}
use Rattle.ror_statement.specs.declared.statement.Statement.{Statement}
use Rattle.ror_statement.specs.declared.statement.Statement.TheVariants.{Prefer}
use Rattle.ror_statement.specs.declared.statement.Numbered.{Numbered}
use Rattle.ror_statement.specs.RowNumbers.{row_count}
use Rattle.ror_chain.specs.Chain.{ChainState, IsLinked, IsChain, linked_items, relinked, all_relinked, with_item, CanRelink, CanRelinkAll, EndsWithNewest}
use Rattle.ror_history.specs.declared.inverse.Inverse.{Inverse}
use Rattle.ror_history.specs.declared.inverse.Inverse.TheVariants.{Pop, Relink, RelinkAll, Set}
use Rattle.ror_history.specs.History.{Revision, addition, withdrawal, replacement, Revisions, with_numbers_from}

-- ---- one inverse

-- the chain without its newest node
abbrev pub without_newest : ChainState Numbered → ChainState Numbered
without_newest s = record {
  order = take (length s.order - 1) s.order;
  items = take (length s.items - 1) s.items;
  kept = take (length s.kept - 1) s.kept;
}

abbrev pub taken_back : ChainState Numbered → Inverse → ChainState Numbered
taken_back s Pop = without_newest s
taken_back s (Relink n) = relinked s n
taken_back s (RelinkAll ns) = all_relinked s (reverse ns)
taken_back s (Set n x) = with_item s n x

-- the condition of the chain's call, or of its calls in turn
abbrev pub CanTakeBack : ChainState Numbered → Inverse → Type 0
CanTakeBack s Pop = EndsWithNewest s
CanTakeBack s (Relink n) = CanRelink s n
CanTakeBack s (RelinkAll ns) = CanRelinkAll s (reverse ns)
CanTakeBack s (Set n x) = IsLinked s n

-- the statement of a node; where there is none, some statement all the same
abbrev pub statement_at : ChainState Numbered → ℕ → Statement
statement_at s n = (slice_index_or s.items n (record { number = 0; statement = Prefer 0 0 })).statement

-- the revision that is taken back, whose nodes' numbers are one more than the nodes
abbrev pub revision_of : ChainState Numbered → Inverse → Revision
revision_of s Pop = addition (length s.items) (statement_at s (length s.items - 1))
revision_of s (Relink n) = withdrawal (suc n ∷ [])
revision_of s (RelinkAll ns) = withdrawal (map suc ns)
revision_of s (Set n x) = replacement (suc n) (statement_at s n)

-- ---- all of them, the last first

abbrev pub surviving_of : ChainState Numbered → List Inverse → List Revision
surviving_of s [] = []
surviving_of s (x ∷ xs) = surviving_of (taken_back s x) xs ++ revision_of s x ∷ []

abbrev pub opening_of : ChainState Numbered → List Inverse → List Statement
opening_of s [] = map (λ x. x.statement) s.items
opening_of s (x ∷ xs) = opening_of (taken_back s x) xs

abbrev pub revisions_of : ChainState Numbered → List Inverse → Revisions
revisions_of s xs = record { opening = opening_of s xs; surviving = surviving_of s xs }

-- ---- what holds at each of them

-- the nodes hold the numbers from 1 on in order, and what is linked is within the limits of a desk
pub record IsSound (s : ChainState Numbered) : Type 0 where
  pub chain : IsChain s
  pub numbered : s.items ≡ with_numbers_from 1 (map (λ x. x.statement) s.items)
  pub few : length s.order ≤ MOST_STATEMENTS
  pub rows : row_count (map (λ x. x.statement) (linked_items s)) ≤ MOST_ROWS

-- each can be taken back in its turn, and then the whole opening list stands
abbrev pub IsHeld : ChainState Numbered → List Inverse → Type 0
IsHeld s [] = IsSound s × (linked_items s ≡ s.items)
IsHeld s (x ∷ xs) = IsSound s × CanTakeBack s x × IsHeld (taken_back s x) xs

-- the chain holds these items in order, all of them linked
pub record IsOpened (s : ChainState Numbered) (list : List Numbered) : Type 0 where
  pub chain : IsChain s
  pub items : s.items ≡ list
  pub linked : linked_items s ≡ list
