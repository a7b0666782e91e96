use Rattle.pgw_config.proofs.numbers.count.Goals as goal

pub returns-in-ConnectTimeout : goal.returns-in-ConnectTimeout
returns-in-ConnectTimeout c =
    rw c.in-ConnectTimeout.is (c.set_time.ensures (λ time. record c.args.config.now { connect_timeout = time }))

pub returns-in-TcpUserTimeout : goal.returns-in-TcpUserTimeout
returns-in-TcpUserTimeout c =
    rw c.in-TcpUserTimeout.is
    (c.set_time-in-TcpUserTimeout.ensures (λ time. record c.args.config.now { tcp_user_timeout = time }))

pub returns-in-Keepalives : goal.returns-in-Keepalives
returns-in-Keepalives c =
    rw c.in-Keepalives.is (c.set_flag.ensures (λ flag. record c.args.config.now { keepalives = flag }))

pub returns-in-KeepalivesIdle : goal.returns-in-KeepalivesIdle
returns-in-KeepalivesIdle c =
    rw c.in-KeepalivesIdle.is (c.set_idle.ensures (λ time. record c.args.config.now { keepalives_idle = time }))

pub returns-in-KeepalivesInterval : goal.returns-in-KeepalivesInterval
returns-in-KeepalivesInterval c =
    rw c.in-KeepalivesInterval.is
    (c.set_time-in-KeepalivesInterval.ensures
    (λ time. record c.args.config.now { keepalives_interval = time }))

pub returns-in-KeepalivesRetries : goal.returns-in-KeepalivesRetries
returns-in-KeepalivesRetries c =
    rw c.in-KeepalivesRetries.is
    (c.set_retries.ensures (λ retries. record c.args.config.now { keepalives_retries = retries }))
