-- The table of the elements that are kept, written out.
use Rattle.std.specs.Prelude.{◌≡◌, ◌⊎◌, ℕ, List, [], ◌∷◌, codes}

-- which children of an element are kept: those with this local name, or all
pub data Children : Type 0 where
  named : List ℕ → Children
  all : Children

-- a parent, by the local names from the root to it, each behind a `/`, and the children of it that are kept
abbrev pub Row : Type 0
Row = List ℕ × Children

unfoldable pub rows : List Row
rows =
    (codes "", named (codes "XMCDA"))
    ∷ (codes "/XMCDA", named (codes "alternatives"))
    ∷ (codes "/XMCDA/alternatives", named (codes "alternative"))
    ∷ (codes "/XMCDA/alternatives/alternative", named (codes "active"))
    ∷ (codes "/XMCDA", named (codes "criteria"))
    ∷ (codes "/XMCDA/criteria", named (codes "criterion"))
    ∷ (codes "/XMCDA/criteria/criterion", named (codes "active"))
    ∷ (codes "/XMCDA/criteria/criterion", named (codes "scale"))
    ∷ (codes "/XMCDA/criteria/criterion/scale", named (codes "quantitative"))
    ∷ (codes "/XMCDA/criteria/criterion/scale/quantitative", named (codes "preferenceDirection"))
    ∷ (codes "/XMCDA/criteria/criterion/scale", named (codes "qualitative"))
    ∷ (codes "/XMCDA", named (codes "performanceTable"))
    ∷ (codes "/XMCDA/performanceTable", named (codes "alternativePerformances"))
    ∷ (codes "/XMCDA/performanceTable/alternativePerformances", named (codes "alternativeID"))
    ∷ (codes "/XMCDA/performanceTable/alternativePerformances", named (codes "performance"))
    ∷ (codes "/XMCDA/performanceTable/alternativePerformances/performance", named (codes "criterionID"))
    ∷ (codes "/XMCDA/performanceTable/alternativePerformances/performance", named (codes "value"))
    ∷ (codes "/XMCDA/performanceTable/alternativePerformances/performance/value", all)
    ∷ (codes "/XMCDA/performanceTable/alternativePerformances/performance/value/rational", named (codes "numerator"))
    ∷ (codes "/XMCDA/performanceTable/alternativePerformances/performance/value/rational", named (codes "denominator"))
    ∷ (codes "/XMCDA", named (codes "categories"))
    ∷ (codes "/XMCDA/categories", named (codes "category"))
    ∷ (codes "/XMCDA/categories/category", named (codes "active"))
    ∷ (codes "/XMCDA/categories/category", named (codes "rank"))
    ∷ (codes "/XMCDA/categories/category/rank", named (codes "integer"))
    ∷ (codes "/XMCDA", named (codes "alternativesComparisons"))
    ∷ (codes "/XMCDA/alternativesComparisons", named (codes "pairs"))
    ∷ (codes "/XMCDA/alternativesComparisons/pairs", named (codes "pair"))
    ∷ (codes "/XMCDA/alternativesComparisons/pairs/pair", named (codes "initial"))
    ∷ (codes "/XMCDA/alternativesComparisons/pairs/pair/initial", all)
    ∷ (codes "/XMCDA/alternativesComparisons/pairs/pair", named (codes "terminal"))
    ∷ (codes "/XMCDA/alternativesComparisons/pairs/pair/terminal", all)
    ∷ (codes "/XMCDA", named (codes "alternativesAffectations"))
    ∷ (codes "/XMCDA/alternativesAffectations", named (codes "alternativeAffectation"))
    ∷ (codes "/XMCDA/alternativesAffectations/alternativeAffectation", all)
    ∷ (codes "/XMCDA/alternativesAffectations/alternativeAffectation/categoriesInterval", named (codes "lowerBound"))
    ∷ (codes "/XMCDA/alternativesAffectations/alternativeAffectation/categoriesInterval", named (codes "upperBound"))
    ∷ (codes "/XMCDA/alternativesAffectations/alternativeAffectation/categoriesInterval/lowerBound", named (codes "categoryID"))
    ∷ (codes "/XMCDA/alternativesAffectations/alternativeAffectation/categoriesInterval/upperBound", named (codes "categoryID"))
    ∷ []

-- the child with this local name is among them
abbrev pub Takes : Children → List ℕ → Type 0
Takes (named child) name = child ≡ name
Takes all name = Unit {0}

-- some row says that the child with this local name is kept of an element with this path
abbrev pub IsListedIn : List Row → List ℕ → List ℕ → Type 0
IsListedIn [] path name = ⊥
IsListedIn (row ∷ more) path name = ((row.0 ≡ path) × Takes row.1 name) ⊎ IsListedIn more path name
