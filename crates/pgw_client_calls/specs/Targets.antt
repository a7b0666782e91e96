-- What a request describes or closes.
use Rattle.std.specs.Option.{option_copied}
use Rattle.pgw_session.specs.declared.types.Target.{Target}
use Rattle.pgw_session.specs.declared.types.Target.TheVariants as target
use Rattle.pgw_client_calls.specs.declared.requests.DescribeTarget.{DescribeTarget}
use Rattle.pgw_client_calls.specs.declared.requests.DescribeTarget.TheVariants.{Statement, Portal}

abbrev pub target_of : DescribeTarget → Target
target_of (Statement name) = target.Statement (option_copied name)
target_of (Portal name) = target.Portal (option_copied name)
