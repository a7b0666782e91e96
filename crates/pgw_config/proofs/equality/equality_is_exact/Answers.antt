use Rattle.std.proofs.Common.{refl, ap}
use Rattle.std.proofs.lemmas.Bool.Decides.{Decides-eqb}
use Rattle.std.specs.Cmp.Lexicographic.{pointwise_decides, bytes_decides}
use Rattle.pgw_types.specs.declared.address.Host.TheVariants as host
use Rattle.pgw_types.specs.declared.address.HostAddr.TheVariants as addr
use Rattle.pgw_types.specs.declared.address.Address.TheVariants as address
use Rattle.pgw_config.specs.declared.config.SslMode.TheVariants as ssl_mode
use Rattle.pgw_config.specs.declared.config.SslNegotiation.TheVariants as ssl_negotiation
use Rattle.pgw_config.specs.declared.config.TargetSessionAttrs.TheVariants as target
use Rattle.pgw_config.specs.declared.config.ChannelBinding.TheVariants as binding
use Rattle.pgw_config.specs.declared.config.LoadBalanceHosts.TheVariants as balance
use Rattle.pgw_config.specs.declared.config.Config.{Config}
use Rattle.pgw_wire.proofs.EqualLaws.{bool_exact, option_exact, both_exact, made_exact}
use Rattle.pgw_config.proofs.equality.equality_is_exact.Goals as goal

pub returns-clause-host : goal.returns-clause-host
returns-clause-host c (host.Tcp x) (host.Tcp y) =
    (λ e. ap (λ z. host.Tcp z) ((bytes_decides x y).0 e), λ e. (bytes_decides x y).1 cc)
returns-clause-host c (host.Unix x) (host.Unix y) =
    (λ e. ap (λ z. host.Unix z) ((bytes_decides x y).0 e), λ e. (bytes_decides x y).1 cc)
returns-clause-host c x y = (λ e. absurd cc, λ e. absurd cc)

pub returns-clause-host_addr : goal.returns-clause-host_addr
returns-clause-host_addr c (addr.V4 x) (addr.V4 y) =
    (λ e. ap (λ z. addr.V4 z) ((bytes_decides x y).0 e), λ e. (bytes_decides x y).1 cc)
returns-clause-host_addr c (addr.V6 x) (addr.V6 y) =
    (λ e. ap (λ z. addr.V6 z) ((bytes_decides x y).0 e), λ e. (bytes_decides x y).1 cc)
returns-clause-host_addr c x y = (λ e. absurd cc, λ e. absurd cc)

pub returns-clause-address : goal.returns-clause-address
returns-clause-address c (address.Ip x m) (address.Ip y n) =
    let d = both_exact _ _ (returns-clause-host_addr c) Decides-eqb (x, m) (y, n) in
    (λ e. ap (λ z. address.Ip z.0 z.1) (d.0 e), λ e. d.1 cc)
returns-clause-address c (address.Host x m) (address.Host y n) =
    let d = both_exact _ _ bytes_decides Decides-eqb (x, m) (y, n) in
    (λ e. ap (λ z. address.Host z.0 z.1) (d.0 e), λ e. d.1 cc)
returns-clause-address c (address.Unix x) (address.Unix y) =
    (λ e. ap (λ z. address.Unix z) ((bytes_decides x y).0 e), λ e. (bytes_decides x y).1 cc)
returns-clause-address c x y = (λ e. absurd cc, λ e. absurd cc)

pub returns-clause-ssl_mode : goal.returns-clause-ssl_mode
returns-clause-ssl_mode c ssl_mode.Disable ssl_mode.Disable = (λ e. refl, λ e. refl)
returns-clause-ssl_mode c ssl_mode.Prefer ssl_mode.Prefer = (λ e. refl, λ e. refl)
returns-clause-ssl_mode c ssl_mode.Require ssl_mode.Require = (λ e. refl, λ e. refl)
returns-clause-ssl_mode c x y = (λ e. absurd cc, λ e. absurd cc)

pub returns-clause-ssl_negotiation : goal.returns-clause-ssl_negotiation
returns-clause-ssl_negotiation c ssl_negotiation.Postgres ssl_negotiation.Postgres = (λ e. refl, λ e. refl)
returns-clause-ssl_negotiation c ssl_negotiation.Direct ssl_negotiation.Direct = (λ e. refl, λ e. refl)
returns-clause-ssl_negotiation c x y = (λ e. absurd cc, λ e. absurd cc)

pub returns-clause-target_session_attrs : goal.returns-clause-target_session_attrs
returns-clause-target_session_attrs c target.Any target.Any = (λ e. refl, λ e. refl)
returns-clause-target_session_attrs c target.ReadWrite target.ReadWrite = (λ e. refl, λ e. refl)
returns-clause-target_session_attrs c target.ReadOnly target.ReadOnly = (λ e. refl, λ e. refl)
returns-clause-target_session_attrs c x y = (λ e. absurd cc, λ e. absurd cc)

pub returns-clause-channel_binding : goal.returns-clause-channel_binding
returns-clause-channel_binding c binding.Disable binding.Disable = (λ e. refl, λ e. refl)
returns-clause-channel_binding c binding.Prefer binding.Prefer = (λ e. refl, λ e. refl)
returns-clause-channel_binding c binding.Require binding.Require = (λ e. refl, λ e. refl)
returns-clause-channel_binding c x y = (λ e. absurd cc, λ e. absurd cc)

pub returns-clause-load_balance_hosts : goal.returns-clause-load_balance_hosts
returns-clause-load_balance_hosts c balance.Disable balance.Disable = (λ e. refl, λ e. refl)
returns-clause-load_balance_hosts c balance.Random balance.Random = (λ e. refl, λ e. refl)
returns-clause-load_balance_hosts c x y = (λ e. absurd cc, λ e. absurd cc)

pub returns-clause-config : goal.returns-clause-config
returns-clause-config c = made_exact {Y = Config}
    (λ x. (
      x.user,
      (
        x.password,
        (
          x.dbname,
          (
            x.options,
            (
              x.application_name,
              (
                x.ssl_mode,
                (
                  x.ssl_negotiation,
                  (
                    x.host,
                    (
                      x.hostaddr,
                      (
                        x.port,
                        (
                          x.connect_timeout,
                          (
                            x.tcp_user_timeout,
                            (
                              x.keepalives,
                              (
                                x.keepalives_idle,
                                (
                                  x.keepalives_interval,
                                  (
                                    x.keepalives_retries,
                                    (
                                      x.target_session_attrs,
                                      (
                                        x.channel_binding,
                                        (
                                          x.certificate_hash,
                                          (x.load_balance_hosts, x.protocol_version),
                                        ),
                                      ),
                                    ),
                                  ),
                                ),
                              ),
                            ),
                          ),
                        ),
                      ),
                    ),
                  ),
                ),
              ),
            ),
          ),
        ),
      ),
    ))
    (λ p. record {
      user = p.0;
      password = p.1.0;
      dbname = p.1.1.0;
      options = p.1.1.1.0;
      application_name = p.1.1.1.1.0;
      ssl_mode = p.1.1.1.1.1.0;
      ssl_negotiation = p.1.1.1.1.1.1.0;
      host = p.1.1.1.1.1.1.1.0;
      hostaddr = p.1.1.1.1.1.1.1.1.0;
      port = p.1.1.1.1.1.1.1.1.1.0;
      connect_timeout = p.1.1.1.1.1.1.1.1.1.1.0;
      tcp_user_timeout = p.1.1.1.1.1.1.1.1.1.1.1.0;
      keepalives = p.1.1.1.1.1.1.1.1.1.1.1.1.0;
      keepalives_idle = p.1.1.1.1.1.1.1.1.1.1.1.1.1.0;
      keepalives_interval = p.1.1.1.1.1.1.1.1.1.1.1.1.1.1.0;
      keepalives_retries = p.1.1.1.1.1.1.1.1.1.1.1.1.1.1.1.0;
      target_session_attrs = p.1.1.1.1.1.1.1.1.1.1.1.1.1.1.1.1.0;
      channel_binding = p.1.1.1.1.1.1.1.1.1.1.1.1.1.1.1.1.1.0;
      certificate_hash = p.1.1.1.1.1.1.1.1.1.1.1.1.1.1.1.1.1.1.0;
      load_balance_hosts = p.1.1.1.1.1.1.1.1.1.1.1.1.1.1.1.1.1.1.1.0;
      protocol_version = p.1.1.1.1.1.1.1.1.1.1.1.1.1.1.1.1.1.1.1.1;
    })
    (λ x. refl) _
    (both_exact _ _ (option_exact _ bytes_decides)
    (both_exact _ _ (option_exact _ bytes_decides)
    (both_exact _ _ (option_exact _ bytes_decides)
    (both_exact _ _ (option_exact _ bytes_decides)
    (both_exact _ _ (option_exact _ bytes_decides)
    (both_exact _ _ (returns-clause-ssl_mode c)
    (both_exact _ _ (returns-clause-ssl_negotiation c)
    (both_exact _ _ (pointwise_decides (returns-clause-host c))
    (both_exact _ _ (pointwise_decides (returns-clause-host_addr c))
    (both_exact _ _ bytes_decides
    (both_exact _ _ (option_exact _ Decides-eqb)
    (both_exact _ _ (option_exact _ Decides-eqb)
    (both_exact _ _ bool_exact
    (both_exact _ _ Decides-eqb
    (both_exact _ _ (option_exact _ Decides-eqb)
    (both_exact _ _ (option_exact _ Decides-eqb)
    (both_exact _ _ (returns-clause-target_session_attrs c)
    (both_exact _ _ (returns-clause-channel_binding c)
    (both_exact _ _ (option_exact _ bytes_decides)
    (both_exact _ _ (returns-clause-load_balance_hosts c)
    c.equality_is_exact.ensures.protocol_version))))))))))))))))))))
