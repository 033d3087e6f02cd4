-- The numbers that tables have.
use Rattle.std.proofs.Common.{◌≡◌, ℕ, eqb, Option, IfSome}
use Rattle.std.proofs.lemmas.Bool.{cond_both, eqb-true}
use Rattle.layout.specs.declared.kind.TableKind.{TableKind}
use Rattle.layout.specs.Kinds.{number_of, lines_of, table_of}

abbrev Numbered : ℕ → Option TableKind → Type 0
Numbered n table = IfSome table (λ t. n ≡ number_of t)

-- a number that stands for a table is that table's number
pub tables_numbered : (n : ℕ) → IfSome (table_of n) (λ table. n ≡ number_of table)
tables_numbered n =
    cond_both (eqb n 0) _ _ (Numbered n) (eqb-true n 0)
    (λ _. cond_both (eqb n 255) _ _ (Numbered n) (eqb-true n 255)
    (λ _. cond_both (eqb n 1) _ _ (λ kind. Numbered n (lines_of kind)) (eqb-true n 1)
    (λ _. cond_both (eqb n 2) _ _ (λ kind. Numbered n (lines_of kind)) (eqb-true n 2)
    (λ _. cond_both (eqb n 3) _ _ (λ kind. Numbered n (lines_of kind)) (eqb-true n 3)
    (λ _. cond_both (eqb n 4) _ _ (λ kind. Numbered n (lines_of kind)) (eqb-true n 4)
    (λ _. cond_both (eqb n 5) _ _ (λ kind. Numbered n (lines_of kind)) (eqb-true n 5)
    (λ _. cond_both (eqb n 6) _ _ (λ kind. Numbered n (lines_of kind)) (eqb-true n 6)
    (λ _. cond_both (eqb n 7) _ _ (λ kind. Numbered n (lines_of kind)) (eqb-true n 7)
    (λ _. cond_both (eqb n 8) _ _ (λ kind. Numbered n (lines_of kind)) (eqb-true n 8)
    (λ _. cond_both (eqb n 9) _ _ (λ kind. Numbered n (lines_of kind)) (eqb-true n 9) (λ _. tt)))))))))))
