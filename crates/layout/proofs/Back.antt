-- What is stored of a network is that network.
use Rattle.std.proofs.Common.{◌≡◌, ℕ, ◌-◌, List, [], ◌∷◌, ◌++◌, map, length, take, drop, replicate, refl, ap, ◌∙◌}
use Rattle.std.proofs.lemmas.List.{take_at, drop_at, append_assoc}
use Rattle.layout.specs.declared.memory.Tables.{Tables}
use Rattle.layout.specs.Held.{pad, in_use}
use Rattle.layout.specs.Network.{Network, TreeLines, pieces, joined, tree_of, network, stored, Holds}
use Rattle.layout.specs.Zeros.{policy0, grant0, location0, step0, line0, template0, pattern0, command0, job0, running0}
use Rattle.layout.proofs.Pads.{take_pad}

trees_back : (ts : List TreeLines) → map in_use (map tree_of ts) ≡ ts
trees_back [] = refl
trees_back (t ∷ ts) = ap (λ (x : TreeLines). x ∷ map in_use (map tree_of ts)) (take_pad 128 line0 t) ∙ ap (λ (xs : List TreeLines). t ∷ xs) (trees_back ts)

pieces-back : (xs : List TreeLines) (ys : TreeLines) → pieces (map length xs) (joined xs ++ ys) ≡ xs
pieces-back [] ys = refl
pieces-back (x ∷ xs) ys =
    ap (λ (zs : TreeLines). pieces (map length (x ∷ xs)) zs) (append_assoc x (joined xs) ys)
    ∙ (ap (λ (y : TreeLines). y ∷ pieces (map length xs) (drop (length x) (x ++ (joined xs ++ ys)))) (take_at x (joined xs ++ ys) (length x) refl)
    ∙ (ap (λ (zs : TreeLines). x ∷ pieces (map length xs) zs) (drop_at x (joined xs ++ ys) (length x) refl)
    ∙ ap (λ (zs : List TreeLines). x ∷ zs) (pieces-back xs ys)))

shelf_back : (xs : List TreeLines) → pieces (take (length (map length xs)) (pad 64 0 (map length xs))) (pad 1024 line0 (joined xs)) ≡ xs
shelf_back xs =
    ap (λ (ns : List ℕ). pieces ns (pad 1024 line0 (joined xs))) (take_pad 64 0 (map length xs))
    ∙ pieces-back xs (replicate (1024 - length (joined xs)) line0)

pub network-stored : (n : Network) → network (stored n) ≡ n
network-stored n = λ i. record {
  plan = record {
    policies = take_pad 16 policy0 n.plan.policies i;
    grants = take_pad 64 grant0 n.plan.grants i;
    locations = take_pad 16 location0 n.plan.locations i;
    steps = take_pad 256 step0 n.plan.steps i;
    templates = take_pad 256 template0 n.plan.templates i;
    patterns = take_pad 64 pattern0 n.plan.patterns i;
    commands = take_pad 255 command0 n.plan.commands i;
    jobs = take_pad 64 job0 n.plan.jobs i;
  };
  trees = trees_back n.trees i;
  running = take_pad 64 running0 n.running i;
  shelf = shelf_back n.shelf i;
}

-- the network that tables hold is the one that is read off them
pub holds_network : (t : Tables) (n : Network) → Holds t n → network t ≡ n
holds_network t n h = ap network h.whole ∙ network-stored n
