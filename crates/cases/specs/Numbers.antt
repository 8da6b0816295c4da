-- The numbers of the test programs' lines: what they come to.
use Rattle.std.specs.Prelude.{ℕ, ◌+◌, ◌*◌, ◌%◌, eqb, ltb}
use Rattle.model.specs.Vocabulary.{pick, id_of, region_of, plain_attrs, in_region, depending_on}
use Rattle.model.specs.declared.Component.{Component}
use Rattle.model.specs.declared.ComponentAttrs.{ComponentAttrs}
use Rattle.model.specs.declared.ComponentKind.{ComponentKind}
use Rattle.model.specs.declared.ComponentKind.TheVariants.{Active, Passive}
use Rattle.model.specs.declared.FailurePolicy.{FailurePolicy}
use Rattle.model.specs.declared.FailurePolicy.TheVariants.{Required, Isolable, Cascading}

-- One digit more, or the largest number of 64 bits.
abbrev pub with_digit : ℕ → ℕ → ℕ
with_digit n d = pick (ltb (n * 10 + d) 18446744073709551616) (n * 10 + d) 18446744073709551615

abbrev pub kind_of : ℕ → ComponentKind
kind_of n = pick (eqb n 0) Active Passive

abbrev pub policy_of : ℕ → FailurePolicy
policy_of n = pick (eqb n 0) Required (pick (eqb n 1) Isolable Cascading)

abbrev pub attrs_of : ℕ → ℕ → ℕ → ComponentAttrs
attrs_of kind policy region = in_region (region_of (region % 256)) (plain_attrs (kind_of kind) (policy_of policy))

-- A dependency from 256 on is none.
abbrev pub component_of : ℕ → ℕ → ℕ → ℕ → ℕ → Component
component_of id kind policy region dependency = record {
  id = id_of (id % 256);
  attrs = pick (ltb dependency 256) (depending_on (id_of (dependency % 256)) (attrs_of kind policy region)) (attrs_of kind policy region);
}
