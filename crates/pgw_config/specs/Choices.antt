-- The words that a choice of a configuration is written by.
use Rattle.std.specs.Prelude.{ℕ, List, Option, Some, None, codes, if◌then◌else◌}
use Rattle.pgw_config.specs.Keys.{is}
use Rattle.pgw_config.specs.declared.config.Config.{Config}
use Rattle.pgw_config.specs.declared.config.SslMode.{SslMode}
use Rattle.pgw_config.specs.declared.config.SslMode.TheVariants as ssl_mode
use Rattle.pgw_config.specs.declared.config.SslNegotiation.{SslNegotiation}
use Rattle.pgw_config.specs.declared.config.SslNegotiation.TheVariants as ssl_negotiation
use Rattle.pgw_config.specs.declared.config.TargetSessionAttrs.{TargetSessionAttrs}
use Rattle.pgw_config.specs.declared.config.TargetSessionAttrs.TheVariants as target
use Rattle.pgw_config.specs.declared.config.ChannelBinding.{ChannelBinding}
use Rattle.pgw_config.specs.declared.config.ChannelBinding.TheVariants as channel_binding
use Rattle.pgw_config.specs.declared.config.LoadBalanceHosts.{LoadBalanceHosts}
use Rattle.pgw_config.specs.declared.config.LoadBalanceHosts.TheVariants as load_balance
use Rattle.pgw_config.specs.declared.keys.ChoiceKey.{ChoiceKey}
use Rattle.pgw_config.specs.declared.keys.ChoiceKey.TheVariants as choice

unfoldable pub ssl_mode_of : List ℕ → Option SslMode
ssl_mode_of word =
    if is word (codes "disable") then Some ssl_mode.Disable
    else if is word (codes "prefer") then Some ssl_mode.Prefer
    else if is word (codes "require") then Some ssl_mode.Require
    else None

unfoldable pub ssl_negotiation_of : List ℕ → Option SslNegotiation
ssl_negotiation_of word =
    if is word (codes "postgres") then Some ssl_negotiation.Postgres
    else if is word (codes "direct") then Some ssl_negotiation.Direct
    else None

unfoldable pub target_of_word : List ℕ → Option TargetSessionAttrs
target_of_word word =
    if is word (codes "any") then Some target.Any
    else if is word (codes "read-write") then Some target.ReadWrite
    else if is word (codes "read-only") then Some target.ReadOnly
    else None

unfoldable pub channel_binding_of : List ℕ → Option ChannelBinding
channel_binding_of word =
    if is word (codes "disable") then Some channel_binding.Disable
    else if is word (codes "prefer") then Some channel_binding.Prefer
    else if is word (codes "require") then Some channel_binding.Require
    else None

unfoldable pub load_balance_of : List ℕ → Option LoadBalanceHosts
load_balance_of word =
    if is word (codes "disable") then Some load_balance.Disable
    else if is word (codes "random") then Some load_balance.Random
    else None

-- what is made of a value, if there is one
abbrev pub with_value : {A : Type 0} → Option A → (A → Config) → Option Config
with_value None set = None
with_value (Some x) set = Some (set x)

-- the configuration with a choice, where the word is one of the key's
abbrev pub with_choice : Config → ChoiceKey → List ℕ → Option Config
with_choice config choice.SslMode word =
    with_value (ssl_mode_of word) (λ x. record config { ssl_mode = x })
with_choice config choice.SslNegotiation word =
    with_value (ssl_negotiation_of word) (λ x. record config { ssl_negotiation = x })
with_choice config choice.TargetSessionAttrs word =
    with_value (target_of_word word) (λ x. record config { target_session_attrs = x })
with_choice config choice.ChannelBinding word =
    with_value (channel_binding_of word) (λ x. record config { channel_binding = x })
with_choice config choice.LoadBalanceHosts word =
    with_value (load_balance_of word) (λ x. record config { load_balance_hosts = x })
