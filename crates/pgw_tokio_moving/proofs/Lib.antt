mod MovingLaws
